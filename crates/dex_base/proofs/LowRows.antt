-- Eight units at once: a lane stops where no code point of a name below 128 stands.
use Rattle.std.proofs.Common.{◌≡◌, ◌≢◌, ℕ, ◌+◌, ◌-◌, ◌%◌, ◌^◌, ◌<◌, ◌≤◌, Bool, true, false, not, ◌||◌, cond, eqb, leb, List, map, length, get_or, replicate, Fits, w16, bit_and, bit_or, refl, sym, ap, ◌∙◌, inl, inr, arith}
use Rattle.std.proofs.lemmas.Bool.{agree_below, agree_below_at, cases_lt, cond-true, le-leb, ne_eqb}
use Rattle.std.proofs.lemmas.List.{length-map}
use Rattle.std.proofs.lemmas.Nat.{le_or_l, or_of_16}
use Rattle.std.proofs.lemmas.Simd.{map-map, mask_l-mod, length-chunk, zip2_splat, zip2_of_maps, splat_is_map, trailing_mask_l, none_from_empty_mask, run_in_chunk_le, run_in_chunk_fails}
use Rattle.std.specs.Int.Count.{count_trailing_zeros}
use Rattle.std.specs.Simd.Lanes.{chunk, zip2, mask_l, top}
use Rattle.dex_base.specs.Descriptor.{IsNamePoint}
use Rattle.dex_base.specs.inner.Names.{AreLowPoints}
use Rattle.dex_base.proofs.LowPoints.{is_low, is_low-decides}

-- ---- what a lane says

abbrev minus : ℕ → ℕ → ℕ
minus x y = (x + (65536 - y)) % 65536

abbrev at_most : ℕ → ℕ → ℕ
at_most x y = cond (leb x y) 65535 0

abbrev is_not : ℕ → ℕ → ℕ
is_not x y = cond (not (eqb x y)) 65535 0

abbrev pub lane : ℕ → ℕ
lane x = bit_and (bit_and (bit_and (bit_and (at_most 26 (minus (bit_or x 32) 97)) (at_most 10 (minus x 48))) (is_not x 36)) (is_not x 45)) (is_not x 95)

abbrev stops : ℕ → Bool
stops x = top 15 (lane x)

all_say : agree_below (λ x. stops x || is_low x) (λ _. true) 128 ≡ true
all_say = refl

low_name : (x : ℕ) → x < 128 → stops x ≡ false → IsNamePoint x
low_name x low e = (is_low-decides x low).0 (sym (ap (λ b. b || is_low x) e) ∙ agree_below_at (λ x. stops x || is_low x) (λ _. true) 128 x all_say low)

five_stop : (a b c d e : ℕ) → a ≡ 65535 → b ≡ 65535 → c ≡ 65535 → d ≡ 65535 → e ≡ 65535 → top 15 (bit_and (bit_and (bit_and (bit_and a b) c) d) e) ≡ true
five_stop a b c d e p q r s t = rw (p, q, r, s, t) refl

over : (x y : ℕ) → x ≤ y → at_most x y ≡ 65535
over x y h = cond-true _ _ _ (le-leb x y h)

other : (x y : ℕ) → x ≢ y → is_not x y ≡ 65535
other x y n = cond-true _ _ _ (ap not (ne_eqb x y n))

high_stops : (x : ℕ) → 128 ≤ x → x < 65536 → stops x ≡ true
high_stops x high fit =
    let small : bit_or x 32 < 65536 = or_of_16 x 32 fit (omega arith) in
    let great : x ≤ bit_or x 32 = le_or_l x 32 in
    five_stop _ _ _ _ _ (over 26 (minus (bit_or x 32) 97) (omega (arith, small, great))) (over 10 (minus x 48) (omega arith))
    (other x 36 (λ h. omega arith)) (other x 45 (λ h. omega arith)) (other x 95 (λ h. omega arith))

low_here : (x : ℕ) → x < 65536 → stops x ≡ false → (x < 128) × IsNamePoint x
low_here x fit e = elim (cases_lt x 128) [
  | inl low ↦ (low, low_name x low e)
  | inr high ↦ let h = high_stops x high fit in absurd cc
]

-- ---- the lanes of a row

abbrev pub row_lanes : List ℕ → List ℕ
row_lanes row =
    zip2 bit_and (zip2 bit_and (zip2 bit_and (zip2 bit_and
    (zip2 at_most (replicate 8 26) (zip2 minus (zip2 bit_or row (replicate 8 32)) (replicate 8 97)))
    (zip2 at_most (replicate 8 10) (zip2 minus row (replicate 8 48))))
    (zip2 is_not row (replicate 8 36))) (zip2 is_not row (replicate 8 45))) (zip2 is_not row (replicate 8 95))

lanes_are : (row : List ℕ) → length row ≡ 8 → row_lanes row ≡ map lane row
lanes_are row long =
    let letter = zip2_of_maps at_most (λ _. 26) (λ x. minus (bit_or x 32) 97) row (splat_is_map row 8 26 long)
    (zip2_of_maps minus (λ x. bit_or x 32) (λ _. 97) row (zip2_splat bit_or row 8 32 long) (splat_is_map row 8 97 long)) in
    let digit = zip2_of_maps at_most (λ _. 10) (λ x. minus x 48) row (splat_is_map row 8 10 long) (zip2_splat minus row 8 48 long) in
    zip2_of_maps bit_and _ _ row (zip2_of_maps bit_and _ _ row (zip2_of_maps bit_and _ _ row (zip2_of_maps bit_and _ _ row letter digit)
    (zip2_splat is_not row 8 36 long)) (zip2_splat is_not row 8 45 long)) (zip2_splat is_not row 8 95 long)

marks_are : (row : List ℕ) → length row ≡ 8 → mask_l (map (top 15) (row_lanes row)) % 2 ^ 64 ≡ mask_l (map stops row)
marks_are row long =
    ap (λ l. mask_l l % 2 ^ 64) (ap (map (top 15)) (lanes_are row long) ∙ map-map (top 15) lane row)
    ∙ mask_l-mod (map stops row) 64 (omega (arith, length-map row stops, long))

module _ (units : List ℕ) (at : ℕ) (room : at + 8 ≤ length units) (fits : (k : ℕ) → Fits w16 (get_or units k 0)) where
  pub low_none : mask_l (map (top 15) (row_lanes (chunk at 8 units))) % 2 ^ 64 ≡ 0 → AreLowPoints units at (at + 8)
  low_none none k from under =
      low_here (get_or units k 0) (fits k).fits
      (none_from_empty_mask stops units at 8 0 room (sym (marks_are (chunk at 8 units) (length-chunk at 8 units room)) ∙ none) k from under)

  pub low_some : (run : ℕ) → mask_l (map (top 15) (row_lanes (chunk at 8 units))) % 2 ^ 64 ≢ 0
      → run ≡ count_trailing_zeros 64 (mask_l (map (top 15) (row_lanes (chunk at 8 units))) % 2 ^ 64) → (run ≤ 8) × AreLowPoints units at (at + run)
  low_some run some found =
      let row = chunk at 8 units in
      let long = length-chunk at 8 units room in
      let marks = marks_are row long in
      let set : 0 < mask_l (map stops row) = omega (arith, marks, some) in
      let counted = found ∙ ap (count_trailing_zeros 64) marks ∙ trailing_mask_l stops 64 row (omega (arith, long)) set in
      (run_in_chunk_le stops units at 8 run 0 room counted, λ k from under. low_here (get_or units k 0) (fits k).fits (run_in_chunk_fails stops units at 8 run 0 room counted k from under))
