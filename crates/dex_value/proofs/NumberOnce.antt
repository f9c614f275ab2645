-- Numbers of so many bytes are spelled in one way.
use Rattle.std.proofs.Common.{◌≡◌, ℕ, zero, suc, ◌+◌, ◌*◌, ◌-◌, ◌^◌, ◌<◌, List, [], ◌∷◌, length, slice_index, refl, sym, ap, ◌∙◌, arith, subst, inl, inr}
use Rattle.std.proofs.lemmas.Bool.{cases_lt}
use Rattle.std.proofs.lemmas.Nat.{pow-add}
use Rattle.std.proofs.Math.Nat.{pow-succ'}
use Rattle.byteorder.specs.Endian.{little_number, twos_complement}
use Rattle.byteorder.specs.Numbers.{little_from-lt, little_from-cons}
use Rattle.dex_base.proofs.ShortestLaws.{AllBytes}
use Rattle.dex_value.specs.Spelling.{unsigned_of, signed_of, high_of}
use Rattle.dex_value.proofs.Ranges.{power_some, product_below}
use Rattle.dex_base.proofs.ListFacts.{by_half}

-- ---- bytes and their number

low_same : (a b : List ℕ) → AllBytes a → AllBytes b → length a ≡ length b → little_number (length a) a ≡ little_number (length b) b → a ≡ b
low_same [] [] p q l e = refl
low_same [] (y ∷ ys) p q l e = absurd (omega arith)
low_same (x ∷ xs) [] p q l e = absurd (omega arith)
low_same (x ∷ xs) (y ∷ ys) p q l e =
    let u = little_from-cons 0 (length xs) x xs in
    let v = little_from-cons 0 (length ys) y ys in
    let here : x ≡ y = omega (arith, p.0, q.0, e, u, v) in
    let sums : little_number (length xs) xs ≡ little_number (length ys) ys = omega (arith, p.0, q.0, e, u, v) in
    let r = low_same xs ys p.1 q.1 (omega arith) sums in
    (λ k. here k ∷ r k)

all_below : (xs : List ℕ) → AllBytes xs → (i : ℕ) → slice_index xs i < 256
all_below [] h i = omega arith
all_below (x ∷ xs) h zero = h.0
all_below (x ∷ xs) h (suc i) = all_below xs h.1 i

pub unsigned_once : (a b : List ℕ) → AllBytes a → AllBytes b → length a ≡ length b → unsigned_of a ≡ unsigned_of b → a ≡ b
unfolding unsigned_of
unsigned_once a b p q l e = low_same a b p q l e

bits : (n : ℕ) → 256 ^ n ≡ 2 ^ (8 * n)
bits zero = refl
bits (suc n) =
    let e : 8 * suc n ≡ 8 + 8 * n = omega arith in
    sym (ap (λ k. 2 ^ k) e ∙ pow-add 2 8 (8 * n) ∙ ap (λ k. 256 * k) (sym (bits n)) ∙ sym (pow-succ' 256 n))

twos_once : (n x y : ℕ) → x < 256 ^ n → y < 256 ^ n → twos_complement n x ≡ twos_complement n y → x ≡ y
twos_once n x y p q e = by_half x y (2 ^ (8 * n - 1)) (2 ^ (8 * n)) (subst (λ (m : ℕ). x < m) (bits n) p) (subst (λ (m : ℕ). y < m) (bits n) q) e

pub signed_once : (a b : List ℕ) → AllBytes a → AllBytes b → length a ≡ length b → signed_of a ≡ signed_of b → a ≡ b
unfolding signed_of
signed_once a b p q l e =
    let u = little_from-lt 0 (length a) a (all_below a p) in
    let v = subst (λ (n : ℕ). little_number (length b) b < 256 ^ n) (sym l) (little_from-lt 0 (length b) b (all_below b q)) in
    let same : twos_complement (length a) (little_number (length a) a) ≡ twos_complement (length a) (little_number (length b) b) = e ∙ ap (λ (n : ℕ). twos_complement n (little_number (length b) b)) (sym l) in
    low_same a b p q l (twos_once (length a) (little_number (length a) a) (little_number (length b) b) u v same)

pub high_once : (w : ℕ) (a b : List ℕ) → AllBytes a → AllBytes b → length a ≡ length b → high_of w a ≡ high_of w b → a ≡ b
unfolding high_of
high_once w a b p q l e =
    let f : 256 ^ (w - length a) ≡ 256 ^ (w - length b) = ap (λ (n : ℕ). 256 ^ (w - n)) l in
    let some = power_some (w - length b) in
    let g : little_number (length a) a * 256 ^ (w - length b) ≡ little_number (length b) b * 256 ^ (w - length b) = ap (λ (n : ℕ). little_number (length a) a * n) (sym f) ∙ e in
    low_same a b p q l (cancelled (little_number (length a) a) (little_number (length b) b) (256 ^ (w - length b)) some g)
  where
    cancelled : (x y n : ℕ) → 0 < n → x * n ≡ y * n → x ≡ y
    cancelled x y n some e = elim (cases_lt x y) [
      | inl lt ↦ (let h = product_below x y n lt some in absurd (omega (arith, h, e)))
      | inr ge ↦ elim (cases_lt y x) [
        | inl lt ↦ (let h = product_below y x n lt some in absurd (omega (arith, h, e)))
        | inr le ↦ omega arith
      ]
    ]
