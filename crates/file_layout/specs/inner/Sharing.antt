-- A part of the data section while it is written, each item once.
-- Page: "Dalvik Executable format", "File layout".
use Rattle.std.specs.Prelude.{◌≡◌, ℕ, List, Bool, false, length, slice_get, Some, MatchBool}
use Rattle.file_layout.specs.inner.Sections.{Laying}
use Rattle.file_layout.specs.inner.OneMore.{Entry, HasItemAt, PutsOnce}

-- Some value that is done has these bytes, and its item stands at this place.
pub record IsItemOfDone {V : Type 0} (K : List ℕ → V → Type 0) (done : List V) (places bytes : List ℕ) (place : ℕ) : Type 0 where
  pub turn : ℕ
  pub value : V
  pub there : slice_get done turn ≡ Some value
  pub at : slice_get places turn ≡ Some place
  pub spelled : K bytes value

-- No two items have the same bytes.
abbrev pub AreApart : List Entry → Type 0
AreApart kept = (j k : ℕ) (x y : Entry) → slice_get kept j ≡ Some x → slice_get kept k ≡ Some y → x.0 ≡ y.0 → j ≡ k

-- Each value that is done and takes an item has bytes (by K) whose item is kept at its place.
pub record AreHeld {V : Type 0} (none : V → Bool) (K : List ℕ → V → Type 0) (done : List V) (places : List ℕ) (kept : List Entry) : Type 0 where
  pub counts : length places ≡ length done
  pub each : (turn : ℕ) (v : V) (place : ℕ) → slice_get done turn ≡ Some v → none v ≡ false → slice_get places turn ≡ Some place → (bytes : List ℕ) × K bytes v × HasItemAt kept bytes place

-- Of all values some are done: they are laid after `old`, those of equal bytes (by K) in one item. `kept` has each item.
pub record Sharing {V : Type 0} (none : V → Bool) (G K : List ℕ → V → Type 0) (align : ℕ) (wide : V → ℕ)
    (old out : List ℕ) (done rest all : List V) (places : List ℕ) (kept : List Entry) : Type 0 where
  pub laying : Laying none G align wide old out done rest all places (length kept)
  pub uses : (k : ℕ) (e : Entry) → slice_get kept k ≡ Some e → IsItemOfDone K done places e.0 e.1
  pub apart : AreApart kept
  pub held : AreHeld none K done places kept

-- The item of v stands at this place, once; where v takes none, nothing changes, and the place is 0.
abbrev pub UsesItem : {V : Type 0} → (V → Bool) → (List ℕ → V → Type 0) → ℕ → List Entry → List Entry → List ℕ → List ℕ → V → ℕ → Type 0
UsesItem none K align kept more old new v place =
    MatchBool (none v) ((place ≡ 0) × (new ≡ old) × (more ≡ kept)) ((bytes : List ℕ) × K bytes v × PutsOnce align kept more old new bytes place)
