use Rattle.code_align.proofs.PadLaws.{SomeMoved}
use Rattle.code_align.proofs.pads.numbers_of.Given as goal

abbrev pub invariant-loop-k : goal.invariant-loop-k
invariant-loop-k l = SomeMoved l.pads l.k l.all.items l.nops
