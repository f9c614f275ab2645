-- Beside Reading.antt: what no promise reaches.
use Rattle.std.specs.Prelude.{◌≡◌, ℕ, ◌≤◌, List, length}
use Rattle.std.specs.List.{AllByRecursion}
use Rattle.dex_base.specs.Grammar.{Takes}
use Rattle.program_types.specs.Content.{Name, OfField, Value, Named, Enum}
use Rattle.program_types.specs.Depth.{depth, most_depth}
use Rattle.dex_value.specs.Spelling.{unsigned_of, value_type_of, SpellsArray}
use Rattle.dex_value.specs.Reading.{IsNumber}

-- The value is this name, in a value of this type.
abbrev pub IsName : ℕ → Name → Value → Type 0
IsName type which (Named other) = (type ≡ value_type_of which) × (other ≡ which)
IsName type which (Enum constant) = (type ≡ 0x1b) × (which ≡ OfField constant)
IsName type which _ = ⊥

-- After a head of this type these bytes stand for the value.
abbrev pub ValueStands : (ℕ → Name → Type 0) → ℕ → List ℕ → Value → Type 0
ValueStands N type low (Named which) = (type ≡ value_type_of which) × N (unsigned_of low) which
ValueStands N type low (Enum constant) = (type ≡ 0x1b) × N (unsigned_of low) (OfField constant)
ValueStands N type low v = IsNumber type low v

-- At the front of the bytes stands an array of these values, at most so many, each at most 64 deep.
pub record TakesArray (N : ℕ → Name → Type 0) (most : ℕ) (bytes : List ℕ) (vs : List Value) : Type 0 where
  pub rest : List ℕ
  pub spelled : Takes (SpellsArray N) bytes vs rest
  pub few : length vs ≤ most
  pub deep : AllByRecursion (λ v. depth v ≤ most_depth) vs
