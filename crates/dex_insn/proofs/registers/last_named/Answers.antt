use Rattle.std.proofs.Common.{arith}
use Rattle.dex_insn.proofs.RegisterRuns.{last_named}
use Rattle.dex_insn.proofs.registers.last_named.Goals as goal

pub returns : goal.returns
returns c = rw (c.from.ensures, c.from-2.ensures) (last_named c.args.first c.args.n (let f = c.if-n-eq0.false in omega arith))
