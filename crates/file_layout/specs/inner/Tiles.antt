-- Beside Tiles.antt: what no promise reaches.
use Rattle.std.specs.Prelude.{◌≡◌, ℕ, ◌+◌, ◌<◌, ◌≤◌, Bool, List, length, map, slice_get, Some, MatchBool}
use Rattle.std.specs.List.{AllZip}
use Rattle.dex_container.specs.Where.{slice}
use Rattle.file_layout.specs.Tiles.{Among, Tiles, distinct_places}

-- A place refers to v: it is that of an item of v, and 0 where v is one that takes no item.
abbrev pub Refers : {V : Type 0} → (V → Bool) → List (ℕ × V) → ℕ → V → Type 0
Refers none items place v = MatchBool (none v) (place ≡ 0) ((0 < place) × Among items place v)

-- From `begin` to `end` stand items and nothing else, so many, and the places refer to the values: each item is
-- referred to, and the items stand in the order in which they are first referred to.
pub record Lays {V : Type 0} (none : V → Bool) (G : List ℕ → V → Type 0) (align begin end : ℕ)
    (b : List ℕ) (vs : List V) (places : List ℕ) (count : ℕ) : Type 0 where
  pub items : List (ℕ × V)
  pub tiled : Tiles G align b begin end items
  pub each : AllZip (Refers none items) places vs
  pub order : map (λ (x : ℕ × V). x.0) items ≡ distinct_places places
  pub counted : count ≡ length items

-- Equal values are referred to by one place.
abbrev pub AreShared : {V : Type 0} → List ℕ → List V → Type 0
AreShared {V} places vs =
    (i j : ℕ) (v : V) (p q : ℕ) → slice_get vs i ≡ Some v → slice_get vs j ≡ Some v
    → slice_get places i ≡ Some p → slice_get places j ≡ Some q → p ≡ q

-- Two files have the same bytes from `from` to `to`.
pub record Agree (b c : List ℕ) (from to : ℕ) : Type 0 where
  pub each : (place size : ℕ) → from ≤ place → place + size ≤ to → slice b place size ≡ slice c place size
