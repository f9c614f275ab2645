use Rattle.std.proofs.Common.{map}
use Rattle.program_types.specs.View.{desc}
use Rattle.program_rules.specs.inner.Numbers.{AreNumbers}
use Rattle.program_rules.proofs.numbers.numbers_of.Given as goal

abbrev pub invariant-loop-k : goal.invariant-loop-k
invariant-loop-k l = AreNumbers (map desc l.list) l.k record { last = l.last; again = l.again }
