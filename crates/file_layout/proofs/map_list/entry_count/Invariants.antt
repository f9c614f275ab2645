use Rattle.std.proofs.Common.{◌≡◌, length, take}
use Rattle.std.specs.List.{filter}
use Rattle.file_layout.specs.inner.Entries.{has_some}
use Rattle.file_layout.proofs.map_list.entry_count.Given as goal

abbrev pub invariant-loop-entry : goal.invariant-loop-entry
invariant-loop-entry l = l.count ≡ length (filter has_some (take l.entry-index l.entries))
