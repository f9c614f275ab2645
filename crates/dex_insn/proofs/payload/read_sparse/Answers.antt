use Rattle.std.proofs.Common.{arith}
use Rattle.dex_insn.proofs.Flaws.{keys_fall}
use Rattle.dex_insn.proofs.payload.read_sparse.Goals as goal

pub returns-then-not-rises-clause-err : goal.returns-then-not-rises-clause-err
returns-then-not-rises-clause-err c = λ at even. keys_fall at c.args.front.now c.requires.identifier even (omega (arith, c.if-front-size.false, c.from-size.ensures, c.unit.ensures)) (λ rise. absurd (grind (arith, rise, c.rises.ensures, c.if-not-rises.true)))
