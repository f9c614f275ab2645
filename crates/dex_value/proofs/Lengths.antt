-- How long spellings are.
use Rattle.std.proofs.Common.{ℕ, ◌≤◌, List, length, ap, true, false, arith, lit≤}
use Rattle.std.proofs.lemmas.List.{length-append}
use Rattle.dex_base.proofs.LengthLaws.{IsAtMost, Spells-most}
use Rattle.program_types.specs.Content.{Name, Value, Array, Null, Boolean, Values, no_values, more_values, values}
use Rattle.dex_value.specs.Spelling.{Sized, SpellsValue, SpellsValues, SpellsArray, count_of}
use Rattle.dex_value.specs.Wide.{wide_value, wide_values, wide_array}
use Rattle.dex_value.proofs.Lists.{each-values}

sized_most : (type widest : ℕ) (Means : List ℕ → Type 0) (bytes : List ℕ) → widest ≤ 8 → Sized type widest Means bytes → length bytes ≤ 9
sized_most type widest Means bytes few s = let f = s.few in let e = ap length s.joined in omega (arith, f, e, few)

module _ (N : ℕ → Name → Type 0) where
  mutual
    pub value_most : (v : Value) (bytes : List ℕ) → SpellsValue N bytes v → length bytes ≤ wide_value v
    value_most (Array vs) bytes s =
        let b = s.2 in
        let count = Spells-most b.count (count_of vs) b.counted in
        let back = values_most vs b.back b.means in
        let e = ap length s.1 in
        let j = ap length b.joined in
        let l = length-append b.count b.back in
        omega (arith, count, back, e, j, l)
    value_most Null bytes s = let e = ap length s in omega (arith, e)
    value_most (Boolean false) bytes s = let e = ap length s in omega (arith, e)
    value_most (Boolean true) bytes s = let e = ap length s in omega (arith, e)
    value_most _ bytes s = sized_most _ _ _ bytes (lit≤ tt) s

    pub values_most : (vs : Values) (bytes : List ℕ) → SpellsValues N bytes vs → length bytes ≤ wide_values vs
    values_most no_values bytes s = let e = ap length s in omega (arith, e)
    values_most (more_values v vs) bytes s =
        let front = value_most v s.0 s.3 in
        let back = values_most vs s.1 s.4 in
        let e = ap length s.2 in
        let l = length-append s.0 s.1 in
        omega (arith, front, back, e, l)

  -- an encoded_array is at most as long as its plain sum
  pub SpellsArray-most : IsAtMost (SpellsArray N) wide_array
  SpellsArray-most bytes vs s =
      let count = Spells-most s.front (length vs) s.first in
      let back = values_most (values vs) s.back (each-values N vs s.back s.second.1) in
      let e = ap length s.joined in
      let l = length-append s.front s.back in
      omega (arith, count, back, e, l)
