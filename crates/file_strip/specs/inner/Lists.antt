-- Type lists that stand in a file and are written by the numbers of its kept rows.
-- Page: "Dalvik Executable format", "type_list" and "type_item".
use Rattle.std.specs.Prelude.{◌≡◌, ℕ, ◌≤◌, List, Some, length, map, slice_get, slice_index, take}
use Rattle.std.specs.List.{AllByRecursion, AllZip}
use Rattle.file_layout.specs.inner.Sections.{is_empty_list}
use Rattle.file_put.specs.inner.Lists.{SpellsRanks}
use Rattle.file_limits.specs.Wide.{params_of}
use Rattle.program_types.specs.Content.{Program, Units, OfDesc}
use Rattle.program_types.specs.Key.{text_key}
use Rattle.tables_names.specs.Closure.{Five, NameRanks}
use Rattle.tables_names.specs.Needed.{needed}
use Rattle.tables_names.specs.Rank.{IsAt}
use Rattle.file_renumber.specs.inner.Marked.{Columns}
use Rattle.file_renumber.specs.inner.Numbers.{Carries}
use Rattle.tables_rows.specs.Stands.{NameStands, TypesAt}
use Rattle.file_strip.specs.inner.Moved.{IsItem}

-- By these numbers each of these indices has the rank of its type among names s.
pub record AreRanked (numbers : Columns) (s : Five) (indexes : List ℕ) (ts : List Units) : Type 0 where
  pub few : length s.types ≤ 65535
  pub each : AllZip (λ i t. (number : ℕ) × (slice_get numbers.types i ≡ Some number) × IsAt s.types number (text_key t)) indexes ts

-- The list of these types stands at this offset, and by these numbers each of them has its rank among names s.
pub record IsCarriedList (b : List ℕ) (numbers : Columns) (s : Five) (off : ℕ) (ts : List Units) : Type 0 where
  pub few : length s.types ≤ 65535
  pub stands : TypesAt b off ts
  pub carried : AllByRecursion (λ t. Carries (NameStands b) (NameRanks s) numbers (OfDesc t)) ts

-- At each of these offsets stands one of these lists of types, and by these numbers each type in them has its rank
-- among names s.
abbrev pub AreCarriedLists : List ℕ → Columns → Five → List ℕ → List (List Units) → Type 0
AreCarriedLists b numbers s offs lists = AllZip (IsCarriedList b numbers s) offs lists

-- What is written for the list at an offset: its types by rank.
abbrev pub WritesList : List ℕ → Columns → ℕ → List ℕ → Type 0
WritesList b numbers off bytes = (s : Five) (ts : List Units) → IsCarriedList b numbers s off ts → IsItem is_empty_list (SpellsRanks s) bytes ts

-- The parameters of the kept ones of the first n prototypes stand at these offsets.
abbrev pub AreFirstLists : List ℕ → Columns → Program → ℕ → List ℕ → Type 0
AreFirstLists b numbers p n offs = AreCarriedLists b numbers (needed p) offs (take (slice_index numbers.protos n) (map params_of (needed p).protos))
