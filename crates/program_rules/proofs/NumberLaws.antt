-- Where types stand, one more at a time.
use Rattle.std.proofs.Common.{◌≡◌, ◌≢◌, ℕ, ◌+◌, ◌<◌, ◌≤◌, Bool, true, false, not, List, length, map, Option, Some, None, cond, refl, sym, ap, subst, ◌∙◌, arith, inl, inr, true≢false}
use Rattle.std.specs.Bool.{Decides}
use Rattle.std.specs.List.{slice_get}
use Rattle.std.specs.Prelude.{◌↔◌, IfSome, option_map}
use Rattle.std.specs.Option.{MatchOption, is_some}
use Rattle.std.proofs.lemmas.Bool.{cases_lt}
use Rattle.std.proofs.lemmas.List.{length-map}
use Rattle.std.proofs.lemmas.Option.{slice_get-map, slice_get_cases, slice_get_within}
use Rattle.program_types.specs.Content.{Class, Descriptor, Program}
use Rattle.program_types.specs.View.{desc}
use Rattle.program_types.specs.declared.names.Desc.{Desc}
use Rattle.program_rules.specs.Rules.{ClassHolds, IsNew, AreDistinct, NoneFrom}
use Rattle.program_rules.specs.inner.Numbers.{types, AreNumbers, NoneWithin, IsLastWithin, IsFirstAgain}
use Rattle.program_rules.specs.declared.numbers.TypePlaces.{TypePlaces}

module _ (ts : List Descriptor) (n : ℕ) (key : Descriptor) (at : slice_get ts n ≡ Some key) where
  -- a type that is none of the first n, nor type n
  none-more : (t : Descriptor) (from : ℕ) → ((j : ℕ) → from ≤ j → j < n → slice_get ts j ≢ Some t) → (key ≡ t → ⊥) → (j : ℕ) → from ≤ j → j < n + 1 → slice_get ts j ≢ Some t
  none-more t from before other j far less = elim (cases_lt j n) [
    | inl earlier ↦ before j far earlier
    | inr later ↦ let e : j ≡ n = omega (arith, later, less) in λ h. let same : Some key ≡ Some t = sym at ∙ sym (ap (slice_get ts) e) ∙ h in other cc
  ]

  pub last-more : (t : Descriptor) (old : Option ℕ) (b : Bool) → Decides b (key ≡ t) → MatchOption old (NoneWithin ts n t) (IsLastWithin ts n t) → MatchOption (cond b (Some n) old) (NoneWithin ts (n + 1) t) (IsLastWithin ts (n + 1) t)
  last-more t old true is h = record { within = omega arith; there = at ∙ ap Some (is.0 refl); none = λ j far less. absurd (omega (arith, far, less)) }
  last-more t None false is h = λ j less. none-more t 0 (λ i far near. h i near) (λ e. true≢false (sym (is.1 e))) j (omega arith) less
  last-more t (Some k) false is h = record {
    within = omega (arith, h.within);
    there = h.there;
    none = λ j far less. none-more t (k + 1) (λ i after near. h.none i (omega (arith, after)) near) (λ e. true≢false (sym (is.1 e))) j (omega (arith, far)) less;
  }

  -- type n stands before it too, or not
  pub stood : (k : ℕ) → IsLastWithin ts n key k → ¬ IsNew ts n
  stood k last new = new k last.within (last.there ∙ sym at)

  pub came : NoneWithin ts n key → IsNew ts n
  came none j less e = none j less (e ∙ at)

  pub all-new : ((k : ℕ) → k < n → IsNew ts k) → IsNew ts n → (k : ℕ) → k < n + 1 → IsNew ts k
  all-new before now k less = elim (cases_lt k n) [
    | inl earlier ↦ before k earlier
    | inr later ↦ let e : n ≡ k = omega (arith, later, less) in subst (IsNew ts) e now
  ]

pub again-more : (ts : List Descriptor) (n k : ℕ) → IsFirstAgain ts n k → IsFirstAgain ts (n + 1) k
again-more ts n k h = record { within = omega (arith, h.within); again = h.again; earlier = h.earlier }

-- the first that stands again, where it wasn't known yet
module _ (ts : List Descriptor) (n : ℕ) (key : Descriptor) (at : slice_get ts n ≡ Some key) where
  pub again-now : (again before : Option ℕ) → is_some again ≡ false → is_some before ≡ true → MatchOption again ((k : ℕ) → k < n → IsNew ts k) (IsFirstAgain ts n) → MatchOption before (NoneWithin ts n key) (IsLastWithin ts n key) → IsFirstAgain ts (n + 1) n
  again-now None (Some k) e f new old = record { within = omega arith; again = stood ts n key at k old; earlier = new }
  again-now (Some m) before e f new old = absurd (true≢false e)
  again-now None None e f new old = absurd (true≢false (sym f))

  pub again-kept : (again before : Option ℕ) → is_some before ≡ false → MatchOption again ((k : ℕ) → k < n → IsNew ts k) (IsFirstAgain ts n) → MatchOption before (NoneWithin ts n key) (IsLastWithin ts n key) → MatchOption again ((k : ℕ) → k < n + 1 → IsNew ts k) (IsFirstAgain ts (n + 1))
  again-kept None None e new old = all-new ts n key at new (came ts n key at old)
  again-kept (Some k) before e first old = again-more ts n k first
  again-kept None (Some k) e new old = absurd (true≢false e)

  pub again-known : (again : Option ℕ) → is_some again ≡ true → MatchOption again ((k : ℕ) → k < n → IsNew ts k) (IsFirstAgain ts n) → MatchOption again ((k : ℕ) → k < n + 1 → IsNew ts k) (IsFirstAgain ts (n + 1))
  again-known (Some k) e first = again-more ts n k first
  again-known None e first = absurd (true≢false (sym e))

-- what was found is what is held
pub as-found : (ts : List Descriptor) (n : ℕ) (t : Descriptor) (found held : Option ℕ) → found ≡ held → MatchOption held (NoneWithin ts n t) (IsLastWithin ts n t) → MatchOption found (NoneWithin ts n t) (IsLastWithin ts n t)
as-found ts n t found held e h = subst (λ (o : Option ℕ). MatchOption o (NoneWithin ts n t) (IsLastWithin ts n t)) (sym e) h

-- ---- what the numbers of all classes say of those from number i on

pub none-from : (p : Program) (i : ℕ) (t : Descriptor) → NoneWithin (types p) (length p) t → NoneFrom p i t
none-from p i t h j far there = let w = slice_get_within (types p) j t there in let l = length-map p (λ c. c.ty) in h j (omega (arith, w, l)) there

pub none-after : (p : Program) (i k : ℕ) (t : Descriptor) → IsLastWithin (types p) (length p) t k → k < i → NoneFrom p i t
none-after p i k t h less j far there = let w = slice_get_within (types p) j t there in let l = length-map p (λ c. c.ty) in h.none j (omega (arith, less, far)) (omega (arith, w, l)) there

pub last-before : (p : Program) (i k : ℕ) (t : Descriptor) → IsLastWithin (types p) (length p) t k → NoneFrom p i t → k < i
last-before p i k t h none = elim (cases_lt k i) [
  | inl less ↦ less
  | inr more ↦ absurd (none k (omega (arith, more)) h.there)
]

-- what was looked up says whether none is from number i on
pub examined-up : (p : Program) (i : ℕ) (t : Descriptor) (k : ℕ) (held : Option ℕ) → MatchOption held (NoneWithin (types p) (length p) t) (IsLastWithin (types p) (length p) t) → Some k ≡ held → (k < i) ↔ NoneFrom p i t
examined-up p i t k held h e = let last = subst (λ (o : Option ℕ). MatchOption o (NoneWithin (types p) (length p) t) (IsLastWithin (types p) (length p) t)) (sym e) h in (none-after p i k t last, last-before p i k t last)

pub not-found : (p : Program) (i : ℕ) (t : Descriptor) (held : Option ℕ) → MatchOption held (NoneWithin (types p) (length p) t) (IsLastWithin (types p) (length p) t) → None ≡ held → NoneFrom p i t
not-found p i t held h e = none-from p i t (subst (λ (o : Option ℕ). MatchOption o (NoneWithin (types p) (length p) t) (IsLastWithin (types p) (length p) t)) (sym e) h)

-- ---- types that stand once

pub distinct-by : (ts : List Descriptor) (n : ℕ) → n ≡ length ts → (again : Option ℕ) → MatchOption again ((k : ℕ) → k < n → IsNew ts k) (IsFirstAgain ts n) → (r : Bool) → is_some again ≡ not r → (r ≡ true) ↔ AreDistinct ts
distinct-by ts n e None new true h = (λ y k less. new k (omega (arith, e, less)), λ d. refl)
distinct-by ts n e None new false h = absurd (true≢false (sym h))
distinct-by ts n e (Some k) first false h = (λ y. absurd (true≢false (sym y)), λ d. absurd (first.again (d k (omega (arith, e, first.within)))))
distinct-by ts n e (Some k) first true h = absurd (true≢false h)

-- While all classes keep the rules, none of them is of a type that stands before it too.
pub not-yet : (p : Program) (i : ℕ) (again : Option ℕ) → MatchOption again ((k : ℕ) → k < length p → IsNew (types p) k) (IsFirstAgain (types p) (length p)) → ((k : ℕ) (c : Class) → k < i → slice_get p k ≡ Some c → ClassHolds p k c) → IfSome again (λ k. i ≤ k)
not-yet p i None new kept = tt
not-yet p i (Some k) first kept = elim (cases_lt k i) [
  | inl less ↦ elim (slice_get_cases p k).1 [
    | inl there ↦
        let c = there.0 in
        let at : slice_get p k ≡ Some c = there.2 in
        let ty : slice_get (types p) k ≡ Some c.ty = slice_get-map (λ (d : Class). d.ty) p k ∙ ap (option_map (λ (d : Class). d.ty)) at in
        absurd (first.again (λ j near h. (kept k c less at).order.once j near (h ∙ ty)))
    | inr past ↦ absurd (let far = past.0 in omega (arith, far, first.within))
  ]
  | inr more ↦ omega (arith, more)
]

-- The numbers of the types that classes define are those of the program.
pub carried : (xs : List Desc) (p : Program) (n : TypePlaces) → map desc xs ≡ types p → AreNumbers (map desc xs) (length xs) n → AreNumbers (types p) (length p) n
carried xs p n e h =
    let l : length xs ≡ length p = sym (length-map xs desc) ∙ ap length e ∙ length-map p (λ (c : Class). c.ty) in
    subst (λ (ts : List Descriptor). AreNumbers ts (length p) n) e (subst (λ (k : ℕ). AreNumbers (map desc xs) k n) l h)
