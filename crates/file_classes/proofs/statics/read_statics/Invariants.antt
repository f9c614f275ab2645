use Rattle.program_types.specs.View.{value}
use Rattle.std.proofs.Common.{◌≡◌, map}
use Rattle.tables_rows.specs.Names.{NameIsAt}
use Rattle.tables_rows.specs.inner.Cached.{AreCached}
use Rattle.tables_rows.specs.inner.Reading.{AreFirst}
use Rattle.file_classes.specs.ClassFaults.{ValuesHold}
use Rattle.file_classes.specs.inner.Cached.{StandsOnce}
use Rattle.file_classes.specs.inner.Reading.{AreStatics}
use Rattle.file_classes.proofs.statics.read_statics.Given as goal

abbrev pub invariant-loop-i : goal.invariant-loop-i
invariant-loop-i l = AreFirst AreStatics ValuesHold l.sections l.i l.all.items × AreCached (StandsOnce (λ x vs. vs ≡ map value x.now) (NameIsAt l.tables) l.sections) l.cached
