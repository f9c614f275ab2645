-- One more use of an item that is written once.
-- Page: "Dalvik Executable format", "File layout".
use Rattle.std.specs.Prelude.{◌≡◌, ℕ, ◌⊎◌, List, [], ◌∷◌, ◌++◌, slice_get, Some}
use Rattle.file_layout.specs.inner.Sections.{Adds, IsItself}
use Rattle.file_layout.specs.declared.item.Item.{Item}

-- the bytes of an item, and its place
abbrev pub Entry : Type 0
Entry = List ℕ × ℕ

-- An entry in memory.
abbrev pub kept_entry : Item × ℕ → Entry
kept_entry e = (e.0.bytes.items, e.1)

-- An item of these bytes stands at this place.
abbrev pub HasItemAt : List Entry → List ℕ → ℕ → Type 0
HasItemAt kept bytes place = (k : ℕ) × (slice_get kept k ≡ Some (bytes, place))

-- An equal item stands there already, and nothing changes.
pub record IsAgain (kept more : List Entry) (old new bytes : List ℕ) (place : ℕ) : Type 0 where
  pub there : HasItemAt kept bytes place
  pub whole : new ≡ old
  pub same : more ≡ kept

-- No equal item stands there; it is added after `old`, at the next place that `align` divides, and is kept.
pub record IsAdded (align : ℕ) (kept more : List Entry) (old new bytes : List ℕ) (place : ℕ) : Type 0 where
  pub fresh : (other : ℕ) → ¬ HasItemAt kept bytes other
  pub adds : Adds IsItself align old new bytes place
  pub last : more ≡ kept ++ (bytes, place) ∷ []

-- The item of these bytes stands at this place, once.
abbrev pub PutsOnce : ℕ → List Entry → List Entry → List ℕ → List ℕ → List ℕ → ℕ → Type 0
PutsOnce align kept more old new bytes place = IsAgain kept more old new bytes place ⊎ IsAdded align kept more old new bytes place
