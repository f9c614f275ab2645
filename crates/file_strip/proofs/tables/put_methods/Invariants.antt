use Rattle.file_put.specs.inner.Rows.{SpellsMethodRow}
use Rattle.program_types.specs.Content.{Program}
use Rattle.program_types.specs.Key.{method_ref_key}
use Rattle.tables_names.specs.Needed.{needed}
use Rattle.file_strip.specs.inner.Keeping.{Keeps}
use Rattle.file_strip.specs.inner.Tables.{AreFirstRows}
use Rattle.file_strip.proofs.tables.put_methods.Given as goal

abbrev pub invariant-loop-i : goal.invariant-loop-i
invariant-loop-i l = (p : Program) → Keeps l.sections l.numbers p → AreFirstRows method_ref_key (SpellsMethodRow (needed p)) l.numbers.methods (needed p).methods l.fn.rows.items l.i l.rows.items
