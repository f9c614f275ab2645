-- Reading: what the contracts of private functions cite.
use Rattle.std.specs.Prelude.{◌≡◌, ◌↔◌, ℕ, ◌+◌, List, length, Some, Bool, false, IsTrue, get_or}
use Rattle.std.specs.List.{slice_get}
use Rattle.dex_base.specs.Descriptor.{IsMemberName}
use Rattle.tables_rows.specs.Sorted.{IsBelow, RowsHold}

-- These are the names of the first rows, and the rows hold.
pub record AreFirst {V : Type 0} (Stands : List ℕ → ℕ → V → Type 0) (Holds : List ℕ → ℕ → Type 0) (b : List ℕ) (n : ℕ) (names : List V) : Type 0 where
  pub count : length names ≡ n
  pub each : (i : ℕ) (v : V) → slice_get names i ≡ Some v → Stands b i v
  pub hold : RowsHold Holds b n

-- The last of the texts is below this one.
abbrev pub LastIsBelow : List (List ℕ) → List ℕ → Type 0
LastIsBelow texts next = (j : ℕ) (last : List ℕ) → j + 1 ≡ length texts → slice_get texts j ≡ Some last → IsBelow last next

-- Of each text, whether it is a member name.
pub record AreNameMarks (texts : List (List ℕ)) (marks : List Bool) : Type 0 where
  pub count : length marks ≡ length texts
  pub each : (i : ℕ) (text : List ℕ) → slice_get texts i ≡ Some text → IsTrue (get_or marks i false) ↔ IsMemberName text
