-- Beside Sections.antt: what no promise reaches.
use Rattle.std.specs.Prelude.{◌≡◌, ℕ, ◌+◌, ◌<◌, ◌≤◌, Bool, true, false, List, [], ◌∷◌, ◌++◌, length, MatchBool}
use Rattle.file_layout.specs.Tiles.{zeros, gap}
use Rattle.file_layout.specs.inner.Tiles.{Lays}
use Rattle.file_layout.specs.Sections.{wide_all}

-- the value is the empty list, which takes no item
abbrev pub is_empty_list : {A : Type 0} → List A → Bool
is_empty_list [] = true
is_empty_list (x ∷ xs) = false

-- no value is without an item
abbrev pub never : {A : Type 0} → A → Bool
never v = false

-- how many items there are with one more value
abbrev pub count_with : Bool → ℕ → ℕ
count_with true count = count
count_with false count = count + 1

-- the bytes of a value that is bytes
abbrev pub IsItself : List ℕ → List ℕ → Type 0
IsItself bytes v = bytes ≡ v

-- how many bytes a value that is bytes takes at most, 4-aligned
abbrev pub wide_bytes : List ℕ → ℕ
wide_bytes v = length v + 3

-- `new` is `old` with the item of v after it, at this place, the next that `align` divides; zeros stand between.
pub record Adds {V : Type 0} (G : List ℕ → V → Type 0) (align : ℕ) (old new : List ℕ) (v : V) (place : ℕ) : Type 0 where
  pub there : place ≡ length old + gap align (length old)
  pub bytes : List ℕ
  pub whole : new ≡ (old ++ zeros (gap align (length old))) ++ bytes
  pub some : 0 < length bytes
  pub spelled : G bytes v

-- The item of v is added so; where v takes none, nothing is, and the place is 0.
abbrev pub AddsSome : {V : Type 0} → (V → Bool) → (List ℕ → V → Type 0) → ℕ → List ℕ → List ℕ → V → ℕ → Type 0
AddsSome none G align old new v place =
    MatchBool (none v) ((place ≡ 0) × (new ≡ old)) (Adds G align old new v place)

-- Of all values some are done: they are laid after `old`, in so many items. `out` with the rest takes no more bytes
-- than `old` with all.
pub record Laying {V : Type 0} (none : V → Bool) (G : List ℕ → V → Type 0) (align : ℕ) (wide : V → ℕ)
    (old out : List ℕ) (done rest all : List V) (places : List ℕ) (count : ℕ) : Type 0 where
  pub lays : Lays none G align (length old) (length out) out done places count
  pub grown : (more : List ℕ) × (out ≡ old ++ more)
  pub bound : length out + wide_all wide rest ≤ length old + wide_all wide all

-- All the values are laid after `old`, in so many items.
abbrev pub Laid : {V : Type 0} → (V → Bool) → (List ℕ → V → Type 0) → ℕ → (V → ℕ)
    → List ℕ → List ℕ → List V → List ℕ → ℕ → Type 0
Laid none G align wide old out vs places count = Laying none G align wide old out vs [] vs places count
