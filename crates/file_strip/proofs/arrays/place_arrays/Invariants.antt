use Rattle.std.proofs.Common.{List, take, drop}
use Rattle.program_types.specs.Content.{Value}
use Rattle.tables_names.specs.Closure.{Five, NameRanks}
use Rattle.file_layout.specs.inner.Sections.{is_empty_list}
use Rattle.dex_base.specs.Leb128.{Shortest}
use Rattle.dex_value.specs.Spelling.{SpellsArray}
use Rattle.dex_value.specs.Wide.{wide_array}
use Rattle.file_put.specs.inner.Arrays.{WritesArray}
use Rattle.file_layout.specs.inner.Sharing.{Sharing}
use Rattle.file_strip.specs.inner.Statics.{AreCarriedStatics, WritesStatics}
use Rattle.file_strip.specs.inner.Moved.{AreMoved}
use Rattle.file_strip.proofs.arrays.place_arrays.Given as goal

abbrev pub invariant-loop-off : goal.invariant-loop-off
invariant-loop-off l =
    ((s : Five) (arrays : List (List Value)) → AreCarriedStatics l.sections l.numbers s l.offs arrays
    → Sharing is_empty_list (Shortest (SpellsArray (NameRanks s))) (WritesArray s) 1 wide_array l.fn.out.items l.out.items (take l.off-index arrays) (drop l.off-index arrays) arrays l.places.items l.moved.items)
    × AreMoved (WritesStatics l.sections l.numbers) l.moved.items l.moved.places
