use Rattle.std.proofs.Common.{◌<◌, ℕ, map, take}
use Rattle.std.specs.List.Sorted.{IsPermutation}
use Rattle.program_types.specs.View.{desc}
use Rattle.file_classes.specs.inner.Reading.{IsNotAmong}
use Rattle.file_classes.proofs.interfaces.are_many_distinct.Given as goal

abbrev pub invariant-loop-n : goal.invariant-loop-n
invariant-loop-n l = IsPermutation (take l.n l.types) l.seen.keys × ((k : ℕ) → k < l.n → IsNotAmong (map desc l.types) k k)
