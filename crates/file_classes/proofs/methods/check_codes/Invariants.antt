use Rattle.std.specs.Prelude.{⊤}
use Rattle.tables_rows.specs.Sorted.{RowsHold}
use Rattle.file_classes.specs.ClassFaults.{BodiesHold}
use Rattle.tables_rows.specs.inner.Cached.{AreCached}
use Rattle.file_classes.specs.inner.Reading.{IsFound}
use Rattle.file_classes.proofs.MethodLaws.{RowsUpTo}
use Rattle.file_classes.proofs.methods.check_codes.Given as goal

abbrev pub invariant-loop-i : goal.invariant-loop-i
invariant-loop-i l = record {
  hold : RowsHold BodiesHold l.sections l.i;
  past : RowsUpTo l.sections l.i l.past;
  cached : AreCached (IsFound (λ x o. ⊤) l.sections) l.cached;
}
