-- In which range the numbers of so many bytes lie.
use Rattle.std.proofs.Common.{◌≡◌, ℕ, zero, suc, ℤ, pos, ◌+ℤ◌, ◌≤ℤ◌, ◌<ℤ◌, ◌*◌, ◌-◌, ◌^◌, ◌<◌, ◌≤◌, List, length, slice_index, sym, ap, ◌∙◌, arith, lit<}
use Rattle.std.proofs.Math.Nat.{pow-le-pow_right, mul-lt-mul_of_pos_right}
use Rattle.std.proofs.lemmas.Nat.{pow-add}
use Rattle.std.proofs.lemmas.Bool.Decides.{nat_tests}
use Rattle.std.proofs.lemmas.Int.{ints}
use Rattle.byteorder.specs.Endian.{twos_complement}
use Rattle.byteorder.specs.Numbers.{little_from-lt}
use Rattle.dex_value.specs.Spelling.{unsigned_of}

pub power_most : (n w : ℕ) → n ≤ w → 256 ^ n ≤ 256 ^ w
power_most n w h = pow-le-pow_right {n = 256} (lit< tt) h

pub power_small : (n : ℕ) → n ≤ 7 → 256 ^ n ≤ 72057594037927936
power_small n h = power_most n 7 h

pub power_some : (n : ℕ) → 0 < 256 ^ n
power_some n = let p = power_most 0 n (omega arith) in omega (arith, p)

pub unsigned_below : (low : List ℕ) (w : ℕ) → length low ≤ w → ((i : ℕ) → slice_index low i < 256) → unsigned_of low < 256 ^ w
unfolding unsigned_of
unsigned_below low w few bytes =
    let a = little_from-lt 0 (length low) low bytes in
    let b = power_most (length low) w few in
    omega (arith, a, b)

pub product_below : (n a b : ℕ) → n < a → 0 < b → n * b < a * b
product_below n a b h some = mul-lt-mul_of_pos_right h some

pub high_below : (n len w : ℕ) → n < 256 ^ len → len ≤ w → n * 256 ^ (w - len) < 256 ^ w
high_below n len w h few =
    let some : 0 < 256 ^ (w - len) = let p = power_most 0 (w - len) (omega arith) in omega (arith, p) in
    let e : 256 ^ len * 256 ^ (w - len) ≡ 256 ^ w = sym (pow-add 256 len (w - len)) ∙ ap (λ k. 256 ^ k) (omega arith) in
    let p = product_below n (256 ^ len) (256 ^ (w - len)) h some in
    omega (arith, p, e)

abbrev pub IsWithin : ℤ → ℕ → Type 0
IsWithin z half = (pos 0 ≤ℤ (z +ℤ pos half)) × (z <ℤ pos half)

pub twos_int : (n x : ℕ) → 0 < n → n ≤ 4 → x < 256 ^ n → IsWithin (twos_complement n x) 2147483648
twos_int zero x some few h = absurd (omega arith)
twos_int (suc zero) x some few h = grind (arith, nat_tests, ints)
twos_int (suc (suc zero)) x some few h = grind (arith, nat_tests, ints)
twos_int (suc (suc (suc zero))) x some few h = grind (arith, nat_tests, ints)
twos_int (suc (suc (suc (suc zero)))) x some few h = grind (arith, nat_tests, ints)
twos_int (suc (suc (suc (suc (suc n))))) x some few h = absurd (omega arith)
