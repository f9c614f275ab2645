-- The values of an array, as the content's own list and as a list.
use Rattle.std.proofs.Common.{◌≡◌, ℕ, suc, ◌≤◌, List, [], ◌∷◌, length, refl, ap, arith}
use Rattle.std.specs.List.{AllByRecursion}
use Rattle.dex_base.specs.Grammar.{Each}
use Rattle.program_types.specs.Content.{Name, Value, Values, no_values, more_values, values}
use Rattle.program_types.specs.Depth.{depth, greatest_depth}
use Rattle.dex_value.specs.Spelling.{SpellsValue, SpellsValues, count_of}
use Rattle.dex_value.specs.Standing.{Shallow}
use Rattle.program_types.proofs.Nesting.{listed}

pub length-listed : (vs : Values) → length (listed vs) ≡ count_of vs
length-listed no_values = refl
length-listed (more_values v vs) = ap suc (length-listed vs)

pub count_of-values : (vs : List Value) → count_of (values vs) ≡ length vs
count_of-values [] = refl
count_of-values (v ∷ vs) = ap suc (count_of-values vs)

module _ (N : ℕ → Name → Type 0) where
  -- the bytes of a list of values are those of the content's own list
  pub each-values : (vs : List Value) (bytes : List ℕ) → Each (SpellsValue N) bytes vs → SpellsValues N bytes (values vs)
  each-values [] bytes p = p
  each-values (v ∷ vs) bytes p = (p.0, p.1, p.2, p.3, each-values vs p.1 p.4)

  pub values-each : (vs : List Value) (bytes : List ℕ) → SpellsValues N bytes (values vs) → Each (SpellsValue N) bytes vs
  values-each [] bytes p = p
  values-each (v ∷ vs) bytes p = (p.0, p.1, p.2, p.3, values-each vs p.1 p.4)

module _ (N : ℕ → Name → Type 0) (limit : ℕ) where
  pub each-listed : (bytes : List ℕ) (vs : Values) → SpellsValues N bytes vs → greatest_depth vs ≤ limit → Each (Shallow N limit) bytes (listed vs)
  each-listed bytes no_values p d = p
  each-listed bytes (more_values v vs) p d =
      (p.0, p.1, p.2, record { spelled = p.3; deep = omega arith }, each-listed p.1 vs p.4 (omega arith))

  pub each-depth : (bytes : List ℕ) (vs : List Value) → Each (Shallow N limit) bytes vs → greatest_depth (values vs) ≤ limit
  each-depth bytes [] p = omega arith
  each-depth bytes (v ∷ vs) p = let d = p.3.deep in let r = each-depth p.1 vs p.4 in omega (arith, d, r)

  pub each-deep : (bytes : List ℕ) (vs : List Value) → Each (Shallow N limit) bytes vs → AllByRecursion (λ v. depth v ≤ limit) vs
  each-deep bytes [] p = tt
  each-deep bytes (v ∷ vs) p = (p.3.deep, each-deep p.1 vs p.4)

  pub each-spelled : (bytes : List ℕ) (vs : List Value) → Each (Shallow N limit) bytes vs → Each (SpellsValue N) bytes vs
  each-spelled bytes [] p = p
  each-spelled bytes (v ∷ vs) p = (p.0, p.1, p.2, p.3.spelled, each-spelled p.1 vs p.4)

  pub each-shallow : (bytes : List ℕ) (vs : List Value) → Each (SpellsValue N) bytes vs → AllByRecursion (λ v. depth v ≤ limit) vs → Each (Shallow N limit) bytes vs
  each-shallow bytes [] p d = p
  each-shallow bytes (v ∷ vs) p d = (p.0, p.1, p.2, record { spelled = p.3; deep = d.0 }, each-shallow p.1 vs p.4 d.1)
