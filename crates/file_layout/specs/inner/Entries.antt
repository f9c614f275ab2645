-- The map of a written file in numbers of four bytes.
-- Page: "Dalvik Executable format", "map_list" and "map_item".
use Rattle.std.specs.Prelude.{ℕ, Bool, List, [], ◌∷◌, nat_lt, if◌then◌else◌, length}
use Rattle.std.specs.List.{filter, flat_map}
use Rattle.file_layout.specs.declared.map_list.Entry.{Entry}
use Rattle.file_layout.specs.inner.Spans.{Span}

-- an entry has items
abbrev pub has_some : Entry → Bool
has_some e = nat_lt 0 e.items

-- an entry that has items: its kind (with the two unused bytes after it), how many items, where they begin
abbrev pub entry_words : Entry → List ℕ
entry_words e = if has_some e then e.kind ∷ e.items ∷ e.place ∷ [] else []

-- how many entries have items, then these
abbrev pub list_words : List Entry → List ℕ
list_words es = length (filter has_some es) ∷ flat_map entry_words es

-- the entry of a span
abbrev pub entry_of : Span → Entry
entry_of s = record { kind = s.kind; items = s.items; place = s.begin }
