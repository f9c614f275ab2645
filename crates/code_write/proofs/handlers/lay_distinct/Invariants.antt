use Rattle.code_write.proofs.LaidLaws.{SomeOffsets}
use Rattle.code_write.proofs.handlers.lay_distinct.Given as goal

abbrev pub invariant-loop-number : goal.invariant-loop-number
invariant-loop-number l = SomeOffsets l.list.places.items l.number-items l.offsets.items l.number-index
