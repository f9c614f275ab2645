-- Numbers of 32 bits, one after the other, are spelled in one way.
use Rattle.std.proofs.Common.{◌≡◌, ℕ, zero, suc, ◌+◌, ◌*◌, ◌/◌, ◌%◌, ◌^◌, ◌<◌, List, [], ◌∷◌, length, get_or, refl, sym, ap, ◌∙◌, arith, subst}
use Rattle.dex_base.specs.Fields.{AreBytes, u32_at}
use Rattle.dex_base.proofs.FieldBounds.{u32_at-fits}
use Rattle.dex_base.proofs.ShortestLaws.{AllBytes}
use Rattle.dex_insn.specs.Fields.{int_at, signed}
use Rattle.code_read.specs.Symbols as symbols
use Rattle.code_read.specs.Symbols.{ints_from}
use Rattle.dex_base.proofs.ListFacts.{by_half}
use Rattle.dex_base.proofs.SameFields.{same_word}
use Rattle.code_write.proofs.IntLaws.{number-u32}
use Rattle.std.proofs.lemmas.Grind.{same_number_lists}

are_of : (b : List ℕ) → AllBytes b → AreBytes b
are_of [] h i = omega arith
are_of (x ∷ xs) h zero = h.0
are_of (x ∷ xs) h (suc i) = are_of xs h.1 i

int_word : (b c : List ℕ) (i : ℕ) → AreBytes b → AreBytes c → int_at b i ≡ int_at c i → u32_at b (4 * i) ≡ u32_at c (4 * i)
int_word b c i p q e =
    let f : signed 32 (u32_at b (4 * i)) ≡ signed 32 (u32_at c (4 * i)) = ap (λ (n : ℕ). signed 32 n) (sym (number-u32 b i)) ∙ e ∙ ap (λ (n : ℕ). signed 32 n) (number-u32 c i) in
    by_half (u32_at b (4 * i)) (u32_at c (4 * i)) (2 ^ 31) (2 ^ 32) (u32_at-fits b (4 * i) p) (u32_at-fits c (4 * i) q) f

-- the numbers from number i on, one by one
from_same : (b c : List ℕ) (i n m : ℕ) → ints_from b i n ≡ ints_from c i m → (n ≡ m) × ((k : ℕ) → k < n → int_at b (i + k) ≡ int_at c (i + k))
from_same b c i zero zero e = (refl, λ k lt. absurd (omega arith))
from_same b c i zero (suc m) e = absurd cc
from_same b c i (suc n) zero e = absurd cc
from_same b c i (suc n) (suc m) e =
    let head : int_at b i ≡ int_at c i = cc in
    let tail : ints_from b (i + 1) n ≡ ints_from c (i + 1) m = cc in
    let r = from_same b c (i + 1) n m tail in
    (ap suc r.0, λ k lt. by_number k lt head r.1)
  where
    by_number : (k : ℕ) → k < suc n → int_at b i ≡ int_at c i → ((k : ℕ) → k < n → int_at b (i + 1 + k) ≡ int_at c (i + 1 + k)) → int_at b (i + k) ≡ int_at c (i + k)
    by_number zero lt head more = let m : i ≡ i + 0 = omega arith in subst (λ (j : ℕ). int_at b j ≡ int_at c j) m head
    by_number (suc k) lt head more = let m : i + 1 + k ≡ i + suc k = omega arith in subst (λ (j : ℕ). int_at b j ≡ int_at c j) m (more k (omega arith))

pub ints_once : (b c : List ℕ) → AllBytes b → AllBytes c → length b % 4 ≡ 0 → length c % 4 ≡ 0 → symbols.ints b ≡ symbols.ints c → b ≡ c
unfolding symbols.ints
ints_once b c p q m n e =
    let r = from_same b c 0 (length b / 4) (length c / 4) e in
    let l : length b ≡ length c = let s = r.0 in omega (arith, s, m, n) in
    same_number_lists b c l (λ i lt.
    (let k = i / 4 in
    let j = i % 4 in
    let there : 4 * k + j ≡ i = omega arith in
    let zero_more : 0 + k ≡ k = omega arith in
    let word = int_word b c k (are_of b p) (are_of c q) (subst (λ (x : ℕ). int_at b x ≡ int_at c x) zero_more (r.1 k (omega (arith, lt, m)))) in
    subst (λ (x : ℕ). get_or b x 0 ≡ get_or c x 0) there (same_word b c (are_of b p) (are_of c q) (4 * k) word j (omega arith))))
