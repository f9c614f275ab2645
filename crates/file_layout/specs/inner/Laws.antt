-- What holds of items that are laid one after the other, for 4-aligned items that are the bytes of their values.
-- Page: "Dalvik Executable format", "alignment" of each item.
use Rattle.std.specs.Prelude.{ℕ, ◌<◌, ◌++◌, List, [], ◌∷◌, length}
use Rattle.std.specs.List.{AllZip}
use Rattle.dex_container.specs.Where.{AtOrNone}
use Rattle.file_layout.specs.declared.plan.Part.{Part}
use Rattle.file_layout.specs.inner.Parts.{HasPart}
use Rattle.file_layout.specs.inner.Sections.{AddsSome, IsItself, Laying, count_with, is_empty_list, wide_bytes}
use Rattle.file_layout.specs.inner.Tiles.{Agree, Lays}

-- laid items are laid in any bytes that agree with theirs
abbrev pub LaidItemsStay : Type 0
LaidItemsStay =
    (b c : List ℕ) (begin end : ℕ) (vs : List (List ℕ)) (places : List ℕ) (count : ℕ)
    → Agree b c begin end → Lays is_empty_list IsItself 4 begin end b vs places count
    → Lays is_empty_list IsItself 4 begin end c vs places count

-- with the next value's item after them, or without one where it takes none, one more value is laid
abbrev pub OneMoreItemIsLaid : Type 0
OneMoreItemIsLaid =
    (old out new : List ℕ) (done rest all : List (List ℕ)) (v : List ℕ) (places : List ℕ) (place count : ℕ)
    → 0 < length old → Laying is_empty_list IsItself 4 wide_bytes old out done (v ∷ rest) all places count
    → AddsSome is_empty_list IsItself 4 out new v place
    → Laying is_empty_list IsItself 4 wide_bytes old new (done ++ v ∷ []) rest all (places ++ place ∷ [])
    (count_with (is_empty_list v) count)

-- the items of a part stand in the section of its kind, each at the place that refers to it
abbrev pub LaidItemsStand : Type 0
LaidItemsStand =
    (b : List ℕ) (kind : ℕ) (p : Part) (vs : List (List ℕ)) (places : List ℕ)
    → HasPart b kind p → Lays is_empty_list IsItself 4 p.begin p.end b vs places p.items
    → AllZip (AtOrNone IsItself b kind 4) places vs
