use Rattle.code_rules.specs.First.{AllHold}
use Rattle.code_read.specs.Tries.{TryHolds}
use Rattle.code_read.proofs.tries.check_tries.Given as goal

abbrev pub invariant-loop-i : goal.invariant-loop-i
invariant-loop-i l = AllHold (TryHolds l.starts l.size l.items) l.i
