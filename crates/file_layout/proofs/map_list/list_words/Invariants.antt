use Rattle.std.proofs.Common.{◌≡◌, ◌∷◌, length, take}
use Rattle.std.specs.List.{filter, flat_map}
use Rattle.file_layout.specs.inner.Entries.{entry_words, has_some}
use Rattle.file_layout.proofs.map_list.list_words.Given as goal

abbrev pub invariant-loop-entry : goal.invariant-loop-entry
invariant-loop-entry l = l.words.items ≡ length (filter has_some l.entries) ∷ flat_map entry_words (take l.entry-index l.entries)
