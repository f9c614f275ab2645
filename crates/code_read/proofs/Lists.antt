-- Lists that grow one by one.
use Rattle.std.proofs.Common.{◌≡◌, zero, suc, replicate, refl, ◌≢◌, ℕ, ◌+◌, ◌<◌, ◌≤◌, List, [], ◌∷◌, ◌++◌, map, length, get_or, ap, sym, ◌∙◌, arith, subst, inl, inr, length-append, set, length-set, get_or-set_same, get_or-set_other}
use Rattle.std.proofs.lemmas.Bool.{cases_lt}
use Rattle.std.proofs.lemmas.List.{map-append, map-set, get_or_append_left}
use Rattle.std.proofs.Math.Seq.{get_or-append_seam}
use Rattle.program_types.specs.Content as content
use Rattle.program_types.specs.Content.{Insn}
use Rattle.program_types.specs.View.{insn}
use Rattle.program_types.specs.declared.insn.Insn.{Insn as Held}

-- k instructions, each of which has what it must have
pub record EachSoFar (P : ℕ → Insn → Type 0) (is : List Insn) (k : ℕ) : Type 0 where
  pub count : length is ≡ k
  pub each : (j : ℕ) → j < k → P j (get_or is j (content.I10x 0))

pub none-so-far : (P : ℕ → Insn → Type 0) (xs : List Held) → xs ≡ [] → EachSoFar P (map insn xs) 0
none-so-far P xs e = record { count = ap (λ (l : List Held). length (map insn l)) e; each = λ j l. absurd (omega (arith, l)) }

pub one-more : (P : ℕ → Insn → Type 0) (k : ℕ) (xs ys : List Held) (x : Held) → EachSoFar P (map insn xs) k → P k (insn x) → ys ≡ xs ++ x ∷ [] → EachSoFar P (map insn ys) (k + 1)
one-more P k xs ys x s h e =
    let is = map insn xs in
    let n = s.count in
    subst (λ (l : List Insn). EachSoFar P l (k + 1)) (sym (ap (map insn) e ∙ map-append insn xs (x ∷ []))) (record {
      count = length-append is (insn x ∷ []) ∙ ap (λ (m : ℕ). m + 1) n;
      each = λ j l. elim (cases_lt j k) [
        | inl m ↦ subst (P j) (sym (get_or_append_left is (insn x ∷ []) (content.I10x 0) j (omega (arith, m, n)))) (s.each j m)
        | inr m ↦
            let f : k ≡ j = omega (arith, l, m) in
            let g : get_or (is ++ insn x ∷ []) k (content.I10x 0) ≡ insn x = subst (λ (q : ℕ). get_or (is ++ insn x ∷ []) q (content.I10x 0) ≡ insn x) n (get_or-append_seam is (insn x) [] (content.I10x 0)) in
            subst (λ (q : ℕ). P q (get_or (is ++ insn x ∷ []) q (content.I10x 0))) f (subst (P k) (sym g) h)
      ];
    })

pub at-old : {A : Type 0} (xs : List A) (x d : A) (j : ℕ) → j < length xs → get_or (xs ++ x ∷ []) j d ≡ get_or xs j d
at-old xs x d j l = get_or_append_left xs (x ∷ []) d j l

pub at-new : {A : Type 0} (xs : List A) (x d : A) → get_or (xs ++ x ∷ []) (length xs) d ≡ x
at-new xs x d = get_or-append_seam xs x [] d

-- The first k instructions have what they must have, and the others are still those that they were.
pub record EachInPlace (P : ℕ → Insn → Type 0) (hs is : List Insn) (k : ℕ) : Type 0 where
  pub count : length is ≡ length hs
  pub done : (j : ℕ) → j < k → P j (get_or is j (content.I10x 0))
  pub rest : (j : ℕ) → k ≤ j → get_or is j (content.I10x 0) ≡ get_or hs j (content.I10x 0)

pub kept-in_place : (P : ℕ → Insn → Type 0) (hs is : List Insn) (k : ℕ) → EachInPlace P hs is k → P k (get_or hs k (content.I10x 0)) → EachInPlace P hs is (k + 1)
kept-in_place P hs is k s h = record {
  count = s.count;
  done = λ j l. elim (cases_lt j k) [
    | inl m ↦ s.done j m
    | inr m ↦ let e : k ≡ j = omega (arith, l, m) in subst (λ (q : ℕ). P q (get_or is q (content.I10x 0))) e (subst (P k) (sym (s.rest k (omega arith))) h)
  ];
  rest = λ j l. s.rest j (omega (arith, l));
}

pub put-in_place : (P : ℕ → Insn → Type 0) (hs : List Insn) (xs : List Held) (x : Held) (k : ℕ) → EachInPlace P hs (map insn xs) k → k < length hs → P k (insn x) → EachInPlace P hs (map insn (set xs k x)) (k + 1)
put-in_place P hs xs x k s inside h =
    let is = map insn xs in
    let n = s.count in
    let here : k < length is = omega (arith, inside, n) in
    subst (λ (l : List Insn). EachInPlace P hs l (k + 1)) (sym (map-set insn xs k x)) (record {
      count = length-set is k (insn x) ∙ n;
      done = λ j l. elim (cases_lt j k) [
        | inl m ↦ let ne : j ≢ k = omega (arith, m) in subst (P j) (sym (get_or-set_other is k j (insn x) (content.I10x 0) ne)) (s.done j m)
        | inr m ↦ let e : k ≡ j = omega (arith, l, m) in subst (λ (q : ℕ). P q (get_or (set is k (insn x)) q (content.I10x 0))) e (subst (P k) (sym (get_or-set_same is k (insn x) (content.I10x 0) here)) h)
      ];
      rest = λ j l. let ne : j ≢ k = omega (arith, l) in get_or-set_other is k j (insn x) (content.I10x 0) ne ∙ s.rest j (omega (arith, l));
    })

-- ---- zeros

pub zero_at : (n i : ℕ) → get_or {A = ℕ} (replicate n 0) i 0 ≡ 0
zero_at zero i = refl
zero_at (suc n) zero = refl
zero_at (suc n) (suc i) = zero_at n i

pub zeros : (xs : List ℕ) (n : ℕ) → xs ≡ replicate n 0 → (i : ℕ) → get_or xs i 0 ≡ 0
zeros xs n e i = subst (λ (ys : List ℕ). get_or ys i 0 ≡ 0) (sym e) (zero_at n i)
