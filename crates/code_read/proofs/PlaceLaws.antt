-- Where numbers stand.
use Rattle.std.proofs.Common.{◌≡◌, ◌≢◌, ℕ, ◌+◌, ◌<◌, ◌≤◌, List, [], ◌∷◌, length, get_or, refl, ap, sym, ◌∙◌, arith, zero, suc, Option, Some, None, if◌then◌else◌, ◌==◌, add-one, subst, inl, inr, ◌⊎◌, ℤ, pos, negsuc, ◌+ℤ◌, ◌<ℤ◌}
use Rattle.std.specs.Prelude.{option_map}
use Rattle.std.proofs.lemmas.Bool.{cases_lt}
use Rattle.std.proofs.lemmas.Bool.Decides.{nat_tests}
use Rattle.code_read.specs.Places.{Rises, position, position_at, target_at, count_below}
use Rattle.code_read.specs.inner.Places.{IsCountBelow}
use Rattle.std.proofs.lemmas.Int.{ints}

pub count-is : (ss : List ℕ) (x n : ℕ) → n ≤ length ss → ((k : ℕ) → k < n → get_or ss k 0 < x) → ((k : ℕ) → n ≤ k → k < length ss → x ≤ get_or ss k 0) → n ≡ count_below x ss
unfolding count_below
count-is [] x n w b h = omega arith
count-is (s ∷ ss) x zero w b h =
    let r = count-is ss x zero (omega arith) (λ k l. absurd (omega arith)) (λ k l m. h (suc k) (omega arith) (omega arith)) in
    let q : x ≤ s = h zero (omega arith) (omega arith) in
    grind (arith, nat_tests)
count-is (s ∷ ss) x (suc n) w b h =
    let r = count-is ss x n (omega arith) (λ k l. b (suc k) (omega arith)) (λ k l m. h (suc k) (omega arith) (omega arith)) in
    let q : s < x = b zero (omega arith) in
    grind (arith, nat_tests)

pub position-none : (ss : List ℕ) (x : ℕ) → ((k : ℕ) → k < length ss → get_or ss k 0 ≢ x) → position ss x ≡ None
unfolding position
position-none [] x h = refl
position-none (s ∷ ss) x h =
    let r = position-none ss x (λ k l. h (suc k) (omega arith)) in
    let q : s ≢ x = h zero (omega arith) in
    rw r (grind (arith, nat_tests))

pub position-is : (ss : List ℕ) (x n : ℕ) → n < length ss → get_or ss n 0 ≡ x → ((k : ℕ) → k < n → get_or ss k 0 ≢ x) → position ss x ≡ Some n
unfolding position
position-is [] x n w e h = absurd (omega arith)
position-is (s ∷ ss) x zero w e h = grind (arith, nat_tests)
position-is (s ∷ ss) x (suc n) w e h =
    let r = position-is ss x n (omega arith) e (λ k l. h (suc k) (omega arith)) in
    let q : s ≢ x = h zero (omega arith) in
    rw r (grind (arith, nat_tests))

-- by the place where the addresses that are not below begin
pub split-none : (ss : List ℕ) (x n : ℕ) → IsCountBelow ss x n → length ss ≤ n → position ss x ≡ None
split-none ss x n b l = position-none ss x (λ k m e. let p = b.before k (omega arith) in absurd (omega arith))

pub split-other : (ss : List ℕ) (x n : ℕ) → Rises ss → IsCountBelow ss x n → n < length ss → get_or ss n 0 ≢ x → position ss x ≡ None
split-other ss x n r b l ne = position-none ss x
    (λ k m e. elim (cases_lt k n) [
      | inl h ↦ let p = b.before k h in absurd (omega arith)
      | inr h ↦ elim (cases_lt n k) [
        | inl g ↦ let p = b.after n (omega arith) l in let q = r.each n k g m in absurd (omega arith)
        | inr g ↦ let s : k ≡ n = omega arith in absurd (ne (subst (λ (j : ℕ). get_or ss j 0 ≡ x) s e))
      ]
    ])

pub split-some : (ss : List ℕ) (x n : ℕ) → IsCountBelow ss x n → n < length ss → get_or ss n 0 ≡ x → position ss x ≡ Some n
split-some ss x n b l e = position-is ss x n l e (λ k m f. let p = b.before k m in absurd (omega arith))

neg : (ss : List ℕ) (z : ℤ) → z <ℤ pos 0 → position_at ss z ≡ None
neg ss (pos n) h = absurd (omega (arith, ints))
neg ss (negsuc n) h = refl

pub target-neg : (ss : List ℕ) (base : ℕ) (offset : ℤ) → (pos base +ℤ offset) <ℤ pos 0 → target_at ss base offset ≡ None
unfolding target_at
target-neg ss base offset h = neg ss (pos base +ℤ offset) h

pub target-pos : (ss : List ℕ) (base : ℕ) (offset : ℤ) (n : ℕ) → pos n ≡ (pos base +ℤ offset) → target_at ss base offset ≡ position ss n
unfolding target_at
target-pos ss base offset n e = ap (position_at ss) (sym e)

cases_eq : (s x : ℕ) → (s ≡ x) ⊎ (s ≢ x)
cases_eq s x = elim (cases_lt s x) [
  | inl h ↦ inr (λ e. omega arith)
  | inr h ↦ elim (cases_lt x s) [ inl g ↦ inr (λ e. omega arith) | inr g ↦ inl (omega arith) ]
]

cond-no : (s x : ℕ) (a b : Option ℕ) → s ≢ x → (if s == x then a else b) ≡ b
cond-no s x a b h = grind (arith, nat_tests)

pub map-suc : (o : Option ℕ) (n : ℕ) → option_map (λ k. k + 1) o ≡ Some n → (m : ℕ) × (o ≡ Some m) × (n ≡ m + 1)
map-suc None n e = cc
map-suc (Some m) n e = (m, refl, cc)

pub position-there : (ss : List ℕ) (x n : ℕ) → position ss x ≡ Some n → (n < length ss) × (get_or ss n 0 ≡ x)
unfolding position
position-there [] x n e = cc
position-there (s ∷ ss) x n e = elim (cases_eq s x) [
  | inl h ↦ let z : n ≡ 0 = grind (arith, nat_tests) in rw z (omega arith, h)
  | inr h ↦
      let f : option_map (λ k. k + 1) (position ss x) ≡ Some n = rw (cond-no s x _ _ h) at e in
      let m = map-suc (position ss x) n f in
      let r = position-there ss x m.0 m.1 in
      let p = r.0 in
      (let q = m.2 in omega arith, rw (m.2, add-one) r.1)
]

at-there : (ss : List ℕ) (z : ℤ) (n : ℕ) → position_at ss z ≡ Some n → (n < length ss) × (pos (get_or ss n 0) ≡ z)
at-there ss (pos x) n e = let p = position-there ss x n e in (p.0, ap (λ (y : ℕ). pos y) p.1)
at-there ss (negsuc x) n e = cc

pub target-there : (ss : List ℕ) (base : ℕ) (offset : ℤ) (n : ℕ) → target_at ss base offset ≡ Some n → (n < length ss) × (pos (get_or ss n 0) ≡ (pos base +ℤ offset))
unfolding target_at
target-there ss base offset n e = at-there ss (pos base +ℤ offset) n e

pub target-to : (ss : List ℕ) (base n : ℕ) (offset : ℤ) → Rises ss → n < length ss → (pos base +ℤ offset) ≡ pos (get_or ss n 0) → target_at ss base offset ≡ Some n
target-to ss base n offset r l e =
    target-pos ss base offset (get_or ss n 0) (sym e)
    ∙ position-is ss (get_or ss n 0) n l refl (λ k m f. let q = r.each k n m l in absurd (omega arith))
