use Rattle.std.proofs.Common.{take, drop}
use Rattle.program_types.specs.View as view
use Rattle.file_layout.specs.inner.Sections.{is_empty_list}
use Rattle.file_put.specs.inner.Lists.{SpellsRanks}
use Rattle.file_limits.specs.Wide.{wide_list}
use Rattle.file_limits.specs.inner.Wide.{list_values}
use Rattle.file_layout.specs.inner.Sharing.{Sharing}
use Rattle.file_put.proofs.type_lists.put_lists.Given as goal

abbrev pub invariant-loop-number : goal.invariant-loop-number
invariant-loop-number l =
    Sharing is_empty_list (SpellsRanks l.ranks) (SpellsRanks l.ranks) 4 wide_list l.fn.out.items l.out.items (take l.number (list_values l.ranks (view.program l.program))) (drop l.number (list_values l.ranks (view.program l.program)))
    (list_values l.ranks (view.program l.program)) l.places.items l.items
