use Rattle.std.proofs.Common.{length, arith}
use Rattle.dex_value.specs.Spelling.{unsigned_of}
use Rattle.dex_value.proofs.Ranges.{unsigned_below}
use Rattle.dex_value.proofs.numbers.unsigned.Goals as goal

pub returns-clause-index : goal.returns-clause-index
unfolding unsigned_of
returns-clause-index c = λ few. let b = unsigned_below c.args.low.now 4 few (λ i. (c.type_inv.low i).fits) in let e = c.read_uint.ensures in omega (arith, b, e)

pub returns-clause-fits : goal.returns-clause-fits
unfolding unsigned_of
returns-clause-fits c = let b = unsigned_below c.args.low.now (length c.args.low.now) (omega arith) (λ i. (c.type_inv.low i).fits) in let e = c.read_uint.ensures in omega (arith, b, e)
