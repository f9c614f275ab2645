-- What has a spelling has names with ranks and counts that fit.
use Rattle.std.proofs.Common.{ℕ, ◌<◌, ◌≤◌, List, arith}
use Rattle.program_types.specs.Content.{Name, OfField, Value, Named, Enum, Array, Values, no_values, more_values, values}
use Rattle.tables_names.specs.Closure.{Five, NameRanks}
use Rattle.dex_value.specs.Spelling.{Sized, unsigned_of, SpellsValue, SpellsValues, SpellsArray, count_of}
use Rattle.program_types.specs.Mentions.{NamesHold, AllNamesHold}
use Rattle.dex_value.specs.Named.{IsRanked}
use Rattle.dex_value.specs.Counts.{CountsFit, AllCountsFit, ArrayFits}
use Rattle.dex_value.specs.Wide.{wide_value, wide_values, wide_array}
use Rattle.dex_value.proofs.Ranges.{unsigned_below}
use Rattle.dex_value.proofs.Lists.{count_of-values, each-values}

-- ---- by a spelling

module _ (ranks : Five) where
  ranked : (type : ℕ) (which : Name) (bytes : List ℕ) → Sized type 4 (λ low. NameRanks ranks (unsigned_of low) which) bytes → IsRanked ranks which
  ranked type which bytes s = record { rank = unsigned_of s.low; small = let b = unsigned_below s.low 4 s.few s.bytes in omega (arith, b); stands = s.means }

  mutual
    value_ranked : (v : Value) (bytes : List ℕ) → SpellsValue (NameRanks ranks) bytes v → NamesHold (IsRanked ranks) v
    value_ranked (Named which) bytes s = ranked _ which bytes s
    value_ranked (Enum constant) bytes s = ranked _ (OfField constant) bytes s
    value_ranked (Array vs) bytes s = values_ranked vs s.2.back s.2.means
    value_ranked _ bytes s = tt

    values_ranked : (vs : Values) (bytes : List ℕ) → SpellsValues (NameRanks ranks) bytes vs → AllNamesHold (IsRanked ranks) vs
    values_ranked no_values bytes s = tt
    values_ranked (more_values v vs) bytes s = (value_ranked v s.0 s.3, values_ranked vs s.1 s.4)

  pub spelled_ranked : (bytes : List ℕ) (vs : List Value) → SpellsArray (NameRanks ranks) bytes vs → AllNamesHold (IsRanked ranks) (values vs)
  spelled_ranked bytes vs s = values_ranked (values vs) s.back (each-values (NameRanks ranks) vs s.back s.second.1)

module _ (N : ℕ → Name → Type 0) where
  mutual
    value_fits : (v : Value) (bytes : List ℕ) → SpellsValue N bytes v → CountsFit v
    value_fits (Array vs) bytes s = (s.2.counted.range, values_fit vs s.2.back s.2.means)
    value_fits _ bytes s = tt

    values_fit : (vs : Values) (bytes : List ℕ) → SpellsValues N bytes vs → AllCountsFit vs
    values_fit no_values bytes s = tt
    values_fit (more_values v vs) bytes s = (value_fits v s.0 s.3, values_fit vs s.1 s.4)

  pub spelled_fits : (bytes : List ℕ) (vs : List Value) → SpellsArray N bytes vs → ArrayFits vs
  spelled_fits bytes vs s = record { own = s.first.range; inner = values_fit (values vs) s.back (each-values N vs s.back s.second.1) }

-- ---- by the plain sum

some_wide : (v : Value) → 0 < wide_value v
some_wide (Array vs) = omega arith
some_wide _ = omega arith

-- values take at least as many bytes as there are of them
count_wide : (vs : Values) → count_of vs ≤ wide_values vs
count_wide no_values = omega arith
count_wide (more_values v vs) = let r = count_wide vs in let o = some_wide v in omega (arith, r, o)

mutual
  value_narrow : (v : Value) → wide_value v ≤ 4294967295 → CountsFit v
  value_narrow (Array vs) h = (let c = count_wide vs in omega (arith, c, h), values_narrow vs (omega (arith, h)))
  value_narrow _ h = tt

  values_narrow : (vs : Values) → wide_values vs ≤ 4294967295 → AllCountsFit vs
  values_narrow no_values h = tt
  values_narrow (more_values v vs) h = (value_narrow v (omega (arith, h)), values_narrow vs (omega (arith, h)))

pub narrow_fits : (vs : List Value) → wide_array vs ≤ 4294967295 → ArrayFits vs
narrow_fits vs h = record {
  own = let c = count_wide (values vs) in let e = count_of-values vs in omega (arith, c, e, h);
  inner = values_narrow (values vs) (omega (arith, h));
}
