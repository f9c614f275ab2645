-- Items one after the other, and the places by which they are referred to.
-- Page: "Dalvik Executable format", "alignment" of each item.
use Rattle.std.specs.Prelude.{◌≡◌, ℕ, ◌+◌, ◌-◌, ◌%◌, ◌<◌, ◌==◌, ◌||◌, if◌then◌else◌, List, [], ◌∷◌, ◌++◌, replicate, ◌⊎◌}
use Rattle.std.specs.List.{fold, list_any}
use Rattle.dex_container.specs.Where.{slice}

-- so many zeros
abbrev pub zeros : ℕ → List ℕ
zeros n = replicate n 0

-- how many bytes there are from a place to the next that `align` divides
abbrev pub gap : ℕ → ℕ → ℕ
gap align at = (align - at % align) % align

-- An item is after `at`, at the next place that `align` divides, with zeros between.
pub record IsNext (align : ℕ) (b : List ℕ) (at place : ℕ) : Type 0 where
  pub there : place ≡ at + gap align at
  pub clear : slice b at (gap align at) ≡ zeros (gap align at)

-- From `at` to `end` are these items and nothing else: each at its place, with its value, in at least one byte.
pub data Tiles {V : Type 0} (G : List ℕ → V → Type 0) (align : ℕ) (b : List ℕ) : ℕ → ℕ → List (ℕ × V) → Type 0 where
  Done : {at : ℕ} → Tiles G align b at at []
  Item : {at end place size : ℕ} {v : V} {items : List (ℕ × V)}
      → IsNext align b at place → 0 < size → G (slice b place size) v
      → Tiles G align b (place + size) end items
      → Tiles G align b at end ((place, v) ∷ items)

-- one more place at the end, if it is not 0 and not yet there
abbrev pub add_place : List ℕ → ℕ → List ℕ
add_place seen place = if (place == 0) || list_any (λ q. q == place) seen then seen else seen ++ place ∷ []

-- the places other than 0, each where it first comes
unfoldable pub distinct_places : List ℕ → List ℕ
distinct_places places = fold add_place [] places

-- one of the items is v, at this place
abbrev pub Among : {V : Type 0} → List (ℕ × V) → ℕ → V → Type 0
Among [] place v = ⊥
Among (x ∷ xs) place v = ((x.0 ≡ place) × (x.1 ≡ v)) ⊎ Among xs place v
