use Rattle.std.proofs.Common.{map, ◌<◌, ℕ}
use Rattle.program_types.specs.View.{desc}
use Rattle.file_classes.specs.inner.Reading.{IsNotAmong}
use Rattle.file_classes.proofs.interfaces.are_few_distinct.Given as goal

abbrev pub invariant-loop-n : goal.invariant-loop-n
invariant-loop-n l = (k : ℕ) → k < l.n → IsNotAmong (map desc l.types) k k
