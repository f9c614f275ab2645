use Rattle.file_put.specs.inner.Rows.{SpellsFieldRow}
use Rattle.program_types.specs.Content.{Program}
use Rattle.program_types.specs.Key.{field_ref_key}
use Rattle.tables_names.specs.Needed.{needed}
use Rattle.file_strip.specs.inner.Keeping.{Keeps}
use Rattle.file_strip.specs.inner.Tables.{AreFirstRows}
use Rattle.file_strip.proofs.tables.put_fields.Given as goal

abbrev pub invariant-loop-i : goal.invariant-loop-i
invariant-loop-i l = (p : Program) → Keeps l.sections l.numbers p → AreFirstRows field_ref_key (SpellsFieldRow (needed p)) l.numbers.fields (needed p).fields l.fn.rows.items l.i l.rows.items
