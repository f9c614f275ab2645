use Rattle.std.proofs.Common.{take}
use Rattle.dex_base.specs.Grammar.{Appends, Each}
use Rattle.file_put.specs.inner.ClassDefs.{SpellsClassRow, with_places}
use Rattle.program_types.specs.Content.{Program}
use Rattle.tables_names.specs.Needed.{needed}
use Rattle.file_strip.specs.inner.Keeping.{Keeps}
use Rattle.file_strip.proofs.class_defs.put_classes.Given as goal

abbrev pub invariant-loop-i : goal.invariant-loop-i
invariant-loop-i l = (p : Program) → Keeps l.sections l.numbers p → Appends (Each (SpellsClassRow (needed p))) l.fn.rows.items l.rows.items (take l.i (with_places p l.lists l.datas l.arrays))
