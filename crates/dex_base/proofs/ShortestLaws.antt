-- Of the spellings of a number that are bytes, one is the shortest.
use Rattle.std.proofs.Common.{◌≡◌, ℕ, suc, ◌*◌, ◌^◌, ◌<◌, inl, inr, List, [], ◌∷◌, length, sym, ap, ◌∙◌, arith, ℤ}
use Rattle.std.specs.List.{All, AllByRecursion}
use Rattle.std.proofs.lemmas.Bool.{cases_lt}
use Rattle.std.proofs.lemmas.Int.{ints}
use Rattle.dex_base.specs.Leb128.{IsSequence, low_first, Spells, SpellsSigned, Shortest}
use Rattle.dex_base.proofs.Sequences.{low_first_below}
use Rattle.dex_base.proofs.Signed.{IsSigned, is_signed}

-- all are bytes
abbrev pub AllBytes : List ℕ → Type 0
AllBytes = AllByRecursion (λ b. b < 256)

pub all_recursion : (P : ℕ → Type 0) (xs : List ℕ) → All P xs → AllByRecursion P xs
all_recursion P [] h = tt
all_recursion P (x ∷ xs) h = (h 0 x (omega arith), all_recursion P xs (λ k d l. h (suc k) d (omega (arith, l))))

-- the length and the sum decide the bytes
same_sequence : (a b : List ℕ) → AllBytes a → AllBytes b → IsSequence a → IsSequence b → length a ≡ length b → low_first a ≡ low_first b → a ≡ b
same_sequence [] b p q s t l e = absurd s
same_sequence (x ∷ xs) [] p q s t l e = absurd t
same_sequence (x ∷ []) (y ∷ []) p q s t l e = let h : x ≡ y = omega (arith, s, t, e) in cc
same_sequence (x ∷ []) (y ∷ d ∷ bs) p q s t l e = absurd (omega (arith, l))
same_sequence (x ∷ c ∷ xs) (y ∷ []) p q s t l e = absurd (omega (arith, l))
same_sequence (x ∷ c ∷ xs) (y ∷ d ∷ ys) p q s t l e =
    let here : x ≡ y = omega (arith, p.0, q.0, s.0, t.0, e) in
    let sums : low_first (c ∷ xs) ≡ low_first (d ∷ ys) = omega (arith, e) in
    let r = same_sequence (c ∷ xs) (d ∷ ys) p.1 q.1 s.1 t.1 (omega (arith, l)) sums in
    cc

pub shortest_one : (a b : List ℕ) (n : ℕ) → AllBytes a → AllBytes b → Shortest Spells a n → Shortest Spells b n → a ≡ b
shortest_one a b n p q s t =
    let l : length a ≡ length b = omega (arith, s.least b t.spelled, t.least a s.spelled) in
    same_sequence a b p q s.spelled.sequence t.spelled.sequence l (sym s.spelled.number ∙ t.spelled.number)

-- the sum of a sequence of so many bytes, from what it stands for
same_sum : (a b : List ℕ) (z : ℤ) → length a ≡ length b → IsSigned a z → IsSigned b z → low_first a ≡ low_first b
same_sum a b z l s t =
    let u = low_first_below a in
    let v = low_first_below b in
    let k : 128 ^ length a ≡ 128 ^ length b = ap (λ n. 128 ^ n) l in
    elim (cases_lt (2 * low_first a) (128 ^ length a)) [
      | inl i ↦ elim (cases_lt (2 * low_first b) (128 ^ length b)) [
        | inl j ↦ let e = s.positive i in let f = t.positive j in omega (arith, ints, e, f)
        | inr j ↦ let e = s.positive i in let f = t.negative j in absurd (omega (arith, ints, e, f, v))
      ]
      | inr i ↦ elim (cases_lt (2 * low_first b) (128 ^ length b)) [
        | inl j ↦ let e = s.negative i in let f = t.positive j in absurd (omega (arith, ints, e, f, u))
        | inr j ↦ let e = s.negative i in let f = t.negative j in omega (arith, ints, e, f, k)
      ]
    ]

pub shortest_signed_one : (a b : List ℕ) (z : ℤ) → AllBytes a → AllBytes b → Shortest SpellsSigned a z → Shortest SpellsSigned b z → a ≡ b
shortest_signed_one a b z p q s t =
    let l : length a ≡ length b = omega (arith, s.least b t.spelled, t.least a s.spelled) in
    let i : IsSigned a z = rw s.spelled.number (is_signed a s.spelled.sequence) in
    let j : IsSigned b z = rw t.spelled.number (is_signed b t.spelled.sequence) in
    same_sequence a b p q s.spelled.sequence t.spelled.sequence l (same_sum a b z l i j)
