use Rattle.std.proofs.Common.{List, take, drop}
use Rattle.program_types.specs.Content.{Units}
use Rattle.tables_names.specs.Closure.{Five}
use Rattle.file_layout.specs.inner.Sections.{is_empty_list}
use Rattle.file_limits.specs.Wide.{wide_list}
use Rattle.file_put.specs.inner.Lists.{SpellsRanks}
use Rattle.file_layout.specs.inner.Sharing.{Sharing}
use Rattle.file_strip.specs.inner.Lists.{AreCarriedLists, WritesList}
use Rattle.file_strip.specs.inner.Moved.{AreMoved}
use Rattle.file_strip.proofs.lists.place_lists.Given as goal

abbrev pub invariant-loop-off : goal.invariant-loop-off
invariant-loop-off l =
    ((s : Five) (lists : List (List Units)) → AreCarriedLists l.sections l.numbers s l.offs lists
    → Sharing is_empty_list (SpellsRanks s) (SpellsRanks s) 4 wide_list l.fn.out.items l.out.items (take l.off-index lists) (drop l.off-index lists) lists l.places.items l.moved.items)
    × AreMoved (WritesList l.sections l.numbers) l.moved.items l.moved.places
