use Rattle.std.proofs.Common.{arith}
use Rattle.code_read.proofs.plain.starts_of.Goals as goal

pub returns : goal.returns
returns c = record { rises = let i = c.loop-at.invariant.inside in (c.loop-at.invariant.rises, omega (arith, i, c.requires.short)) }
