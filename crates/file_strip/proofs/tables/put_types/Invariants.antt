use Rattle.file_put.specs.inner.Rows.{SpellsTypeRow}
use Rattle.program_types.specs.Content.{Program}
use Rattle.program_types.specs.Key.{text_key}
use Rattle.tables_names.specs.Needed.{needed}
use Rattle.file_strip.specs.inner.Keeping.{Keeps}
use Rattle.file_strip.specs.inner.Tables.{AreFirstRows}
use Rattle.file_strip.proofs.tables.put_types.Given as goal

abbrev pub invariant-loop-i : goal.invariant-loop-i
invariant-loop-i l = (p : Program) → Keeps l.sections l.numbers p → AreFirstRows text_key (SpellsTypeRow (needed p)) l.numbers.types (needed p).types l.fn.rows.items l.i l.rows.items
