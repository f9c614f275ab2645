-- Offsets one by one.
use Rattle.std.proofs.Common.{◌≡◌, ℕ, ℤ, ◌+◌, ◌-◌, ◌/◌, ◌<◌, ◌++◌, List, [], ◌∷◌, length, refl, ap, ◌∙◌, arith, suc, append_assoc, subst, map}
use Rattle.dex_insn.specs.Fields.{int_at}
use Rattle.code_read.specs.Symbols.{ints, ints_from}

pub leads-init : (T : ℤ → ℕ) (b all : List ℕ) → all ≡ [] → all ++ map T (ints_from b 0 (length b / 4 - 0)) ≡ map T (ints b)
unfolding ints
leads-init T b all e =
    let n : length b / 4 - 0 ≡ length b / 4 = omega arith in
    rw (e, n) refl

pub leads-turn : (T : ℤ → ℕ) (b all whole : List ℕ) (i n t : ℕ) → i < n → t ≡ T (int_at b i) → all ++ map T (ints_from b i (n - i)) ≡ whole → (all ++ t ∷ []) ++ map T (ints_from b (i + 1) (n - (i + 1))) ≡ whole
leads-turn T b all whole i n t l e h =
    let m : n - i ≡ suc (n - (i + 1)) = omega arith in
    let g = subst (λ (k : ℕ). all ++ map T (ints_from b i k) ≡ whole) m h in
    append_assoc all (t ∷ []) (map T (ints_from b (i + 1) (n - (i + 1)))) ∙ ap (λ (y : ℕ). all ++ y ∷ map T (ints_from b (i + 1) (n - (i + 1)))) e ∙ g

-- the numbers one by one
pub ints-init : (b all : List ℕ) (zs : List ℤ) → zs ≡ [] → zs ++ ints_from b 0 (length b / 4 - 0) ≡ ints b
unfolding ints
ints-init b all zs e =
    let n : length b / 4 - 0 ≡ length b / 4 = omega arith in
    rw (e, n) refl

pub ints-turn : (b : List ℕ) (all whole : List ℤ) (i n : ℕ) (z : ℤ) → i < n → z ≡ int_at b i → all ++ ints_from b i (n - i) ≡ whole → (all ++ z ∷ []) ++ ints_from b (i + 1) (n - (i + 1)) ≡ whole
ints-turn b all whole i n z l e h =
    let m : n - i ≡ suc (n - (i + 1)) = omega arith in
    let g = subst (λ (k : ℕ). all ++ ints_from b i k ≡ whole) m h in
    append_assoc all (z ∷ []) (ints_from b (i + 1) (n - (i + 1))) ∙ ap (λ (y : ℤ). all ++ y ∷ ints_from b (i + 1) (n - (i + 1))) e ∙ g
