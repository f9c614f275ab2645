use Rattle.std.proofs.Common.{◌≡◌, length}
use Rattle.tables_rows.specs.Names.{NameIsAt}
use Rattle.tables_rows.specs.Sorted.{RowsHold}
use Rattle.tables_rows.specs.inner.Cached.{AreCached}
use Rattle.file_classes.specs.ClassFaults.{ValuesHold}
use Rattle.file_classes.specs.inner.Cached.{StandsOnce}
use Rattle.file_classes.proofs.statics.check_statics.Given as goal

abbrev pub invariant-loop-i : goal.invariant-loop-i
invariant-loop-i l = record {
  hold : RowsHold ValuesHold l.sections l.i;
  cached : AreCached (StandsOnce (λ n vs. length vs ≡ n) (NameIsAt l.tables) l.sections) l.cached;
}
