-- The place of an encoded_array of static values in a file (the page's static_values_off), and how deep its values may be.
use Rattle.std.specs.Prelude.{ℕ, ◌≤◌, List, length}
use Rattle.std.specs.List.{AllByRecursion}
use Rattle.dex_container.specs.Where.{At}
use Rattle.program_types.specs.Content.{Name, Value}
use Rattle.program_types.specs.Depth.{depth, most_depth}
use Rattle.dex_value.specs.Spelling.{SpellsValue, SpellsArray}

-- The bytes encode the value, which is at most this deep.
pub record Shallow (N : ℕ → Name → Type 0) (limit : ℕ) (bytes : List ℕ) (v : Value) : Type 0 where
  pub spelled : SpellsValue N bytes v
  pub deep : depth v ≤ limit

-- At this place of the encoded_array section is an array of these values, at most so many, each at most 64 deep.
pub record ArrayStands (N : ℕ → Name → Type 0) (b : List ℕ) (off most : ℕ) (vs : List Value) : Type 0 where
  pub stands : At (SpellsArray N) b 0x2005 1 off vs
  pub few : length vs ≤ most
  pub deep : AllByRecursion (λ v. depth v ≤ most_depth) vs
