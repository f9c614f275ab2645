use Rattle.std.proofs.Common.{map}
use Rattle.program_types.specs.View.{desc}
use Rattle.file_classes.specs.inner.Reading.{IsNotAmong}
use Rattle.file_classes.proofs.interfaces.is_new.Given as goal

abbrev pub invariant-loop-i : goal.invariant-loop-i
invariant-loop-i l = IsNotAmong (map desc l.types) l.i l.n
