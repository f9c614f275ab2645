use Rattle.file_renumber.specs.inner.CarriedCodes.{CarriedCatches}
use Rattle.file_renumber.proofs.CatchLemmas.{WrittenCatches}
use Rattle.file_renumber.proofs.handlers.renumber_catches.Given as goal

abbrev pub invariant-loop-turn : goal.invariant-loop-turn
invariant-loop-turn l = (x : CarriedCatches l.numbers l.count l.bytes) → WrittenCatches x.file x.names x.starts l.fn.out.items l.out.items l.left l._turn x.catches x.rest
