use Rattle.std.proofs.Common.{map, take}
use Rattle.dex_base.specs.Grammar.{Appends, Each}
use Rattle.program_types.specs.View as view
use Rattle.file_put.specs.inner.ClassDefs.{SpellsClassRow, with_places}
use Rattle.file_put.proofs.class_defs.put_classes.Given as goal

abbrev pub invariant-loop-i : goal.invariant-loop-i
invariant-loop-i l = Appends (Each (SpellsClassRow l.ranks)) l.fn.rows.items l.rows.items (take l.i (with_places (map view.class l.classes) l.lists l.datas l.arrays))
