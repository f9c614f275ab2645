use Rattle.program_types.specs.Content.{Program}
use Rattle.tables_names.specs.Needed.{needed}
use Rattle.file_strip.specs.inner.Keeping.{Keeps}
use Rattle.file_strip.specs.inner.Tables.{AreFirstProtos}
use Rattle.file_strip.proofs.tables.put_protos.Given as goal

abbrev pub invariant-loop-i : goal.invariant-loop-i
invariant-loop-i l = (p : Program) → Keeps l.sections l.numbers p → AreFirstProtos (needed p) l.numbers.protos l.places l.fn.rows.items l.i l.rows.items
