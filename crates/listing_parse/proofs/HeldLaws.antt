-- Members that are put in their places one by one, in whatever order, are held in the order of their keys.
use Rattle.std.proofs.Common.{◌≡◌, ◌<◌, ℕ, suc, zero, Bool, true, false, ◌||◌, ◌⊎◌, inl, inr, List, [], ◌∷◌, ◌++◌, length, map, Some, refl, sym, ap, subst, ◌∙◌, arith, slice_index_or}
use Rattle.std.specs.List.{AllByRecursion, IsDistinct, Contains}
use Rattle.std.specs.List.Sorted.{IsPermutation}
use Rattle.std.specs.Ordering.{is_eq, is_lt, eq_by_cmp, ordering_reverse}
use Rattle.std.specs.declared.cmp.Ordering.{Ordering}
use Rattle.std.specs.declared.cmp.Ordering.TheVariants.{Less, Equal, Greater}
use Rattle.std.proofs.lemmas.Cmp.{tied_itself, eq_by_cmp_equiv}
use Rattle.std.proofs.lemmas.List.{append-nil}
use Rattle.std.proofs.lemmas.List.Sorted.{IsPermutation-refl, IsPermutation-sym, IsPermutation-trans, IsPermutation-cons, IsPermutation-middle, IsPermutation-append_left, IsPermutation-map, Contains-permutation}
use Rattle.std.proofs.lemmas.Map.Keys.{IsDistinct-IsPermutation, IsDistinct-cons, IsDistinct-head}
use Rattle.program_types.specs.Content.{Code, Method}
use Rattle.program_types.specs.Key.{Key, key_cmp}
use Rattle.program_types.specs.inner.KeyLaws.{key_cmp-total}
use Rattle.program_rules.specs.Rules.{method_key}
use Rattle.listing_parse.specs.Members.{is_held, put_in}
use Rattle.listing_parse.specs.States.{with_code}
use Rattle.listing_parse.specs.Classes.{Rise, AreSorted}
use Rattle.listing_lines.proofs.OrderLaws.{lt_less}
use Rattle.dex_base.proofs.ListFacts.{by_kind, all_weaker}

-- ---- keys

tied : (k : Key) → key_cmp k k ≡ Equal
tied k = tied_itself key_cmp-total k

not_below_itself : (k : Key) → key_cmp k k ≡ Less → ⊥
not_below_itself k e = let f = tied k in cc

is_greater : (o : Ordering) → is_lt o ≡ false → is_eq o ≡ false → o ≡ Greater
is_greater Greater e f = refl
is_greater _ e f = absurd cc

-- k isn't below q nor equal to it.
is_above : (k q : Key) → is_lt (key_cmp k q) ≡ false → is_eq (key_cmp k q) ≡ false → key_cmp q k ≡ Less
is_above k q e f = key_cmp-total.antisymm q k ∙ ap ordering_reverse (is_greater (key_cmp k q) e f)

pub first_false : (a b : Bool) → (a || b) ≡ false → a ≡ false
first_false true b e = e
first_false false b e = refl

pub second_false : (a b : Bool) → (a || b) ≡ false → b ≡ false
second_false true b e = absurd cc
second_false false b e = e

-- ---- one put in its place

module _ {X : Type 0} (key : X → Key) where
  put_all : (P : Key → Type 0) (x : X) (ys : List X) → P (key x) → AllByRecursion P (map key ys) → AllByRecursion P (map key (put_in key x ys))
  put_all P x [] h a = (h, tt)
  put_all P x (y ∷ ys) h a = elim (by_kind (is_lt (key_cmp (key x) (key y)))) [
    | inl e ↦ rw e (h, a)
    | inr e ↦ rw e (a.0, put_all P x ys h a.1)
  ]

  put_rises : (x : X) (ys : List X) → Rise (map key ys) → is_held key (key x) ys ≡ false → Rise (map key (put_in key x ys))
  put_rises x [] h n = (tt, tt)
  put_rises x (y ∷ ys) h n =
      let o = key_cmp (key x) (key y) in
      by (put_rises x ys h.1 (second_false (is_eq o) (is_held key (key x) ys) n)) (is_lt o) refl
    where
      by : Rise (map key (put_in key x ys)) → (b : Bool) → is_lt (key_cmp (key x) (key y)) ≡ b → Rise (map key (put_in key x (y ∷ ys)))
      by m true e = let l = lt_less (key_cmp (key x) (key y)) e in rw e ((l, all_weaker (λ r. key_cmp (key y) r ≡ Less) (λ r. key_cmp (key x) r ≡ Less) (λ r after. key_cmp-total.trans (key x) (key y) r l after) (map key ys) h.0), h)
      by m false e =
          let f = first_false (is_eq (key_cmp (key x) (key y))) (is_held key (key x) ys) n in
          rw e (put_all (λ q. key_cmp (key y) q ≡ Less) x ys (is_above (key x) (key y) e f) h.0, m)

  put_permutes : (x : X) (ys : List X) → IsPermutation (x ∷ ys) (put_in key x ys)
  put_permutes x [] = IsPermutation-refl (x ∷ [])
  put_permutes x (y ∷ ys) = elim (by_kind (is_lt (key_cmp (key x) (key y)))) [
    | inl e ↦ rw e (IsPermutation-refl (x ∷ (y ∷ ys)))
    | inr e ↦ rw e (IsPermutation-trans (x ∷ (y ∷ ys)) (y ∷ (x ∷ ys)) (y ∷ put_in key x ys) (IsPermutation-sym (y ∷ (x ∷ ys)) (x ∷ (y ∷ ys)) (IsPermutation-middle (y ∷ []) x ys)) (IsPermutation-cons y (x ∷ ys) (put_in key x ys) (put_permutes x ys)))
  ]

  -- ---- what rises and has the same members is the same

  In : X → List X → Type 0
  In x [] = ⊥
  In x (y ∷ ys) = (x ≡ y) ⊎ In x ys

  in_list : (x : X) (ys : List X) (k : ℕ) → k < length ys → slice_index_or ys k x ≡ x → In x ys
  unfolding In
  in_list x [] k l e = absurd (omega arith)
  in_list x (y ∷ ys) zero l e = inl (sym e)
  in_list x (y ∷ ys) (suc k) l e = inr (in_list x ys k (omega arith) e)

  contained : (x : X) (ys : List X) → In x ys → Contains ys x
  unfolding In
  contained x [] h = absurd h
  contained x (y ∷ ys) (inl e) = (0, (omega arith), sym e)
  contained x (y ∷ ys) (inr h) = let c = contained x ys h in (suc c.0, (let l = c.1 in omega arith), c.2)

  in_other : (xs ys : List X) → IsPermutation xs ys → (x : X) → In x xs → In x ys
  in_other xs ys p x h = let c = Contains-permutation xs ys x p (contained x xs h) in in_list x ys c.0 c.1 c.2

  above_in : (k : Key) (x : X) (ys : List X) → AllByRecursion (λ q. key_cmp k q ≡ Less) (map key ys) → In x ys → key_cmp k (key x) ≡ Less
  unfolding In
  above_in k x [] a h = absurd h
  above_in k x (y ∷ ys) a (inl e) = subst (λ z. key_cmp k (key z) ≡ Less) (sym e) a.0
  above_in k x (y ∷ ys) a (inr h) = above_in k x ys a.1 h

  -- What is in both tails.
  tail_in : (y z : X) (ys zs : List X) → y ≡ z → AllByRecursion (λ q. key_cmp (key y) q ≡ Less) (map key ys) → ((x : X) → In x (y ∷ ys) → In x (z ∷ zs)) → (x : X) → In x ys → In x zs
  unfolding In
  tail_in y z ys zs e a f x h = by (f x (inr h))
    where
      by : (x ≡ z) ⊎ In x zs → In x zs
      by (inl g) = absurd (not_below_itself (key y) (subst (λ w. key_cmp (key y) (key w) ≡ Less) (g ∙ sym e) (above_in (key y) x ys a h)))
      by (inr g) = g

  one_rise : (ys zs : List X) → Rise (map key ys) → Rise (map key zs) → ((x : X) → In x ys → In x zs) → ((x : X) → In x zs → In x ys) → ys ≡ zs
  unfolding In
  one_rise [] [] a b f g = refl
  one_rise [] (z ∷ zs) a b f g = absurd (g z (inl refl))
  one_rise (y ∷ ys) [] a b f g = absurd (f y (inl refl))
  one_rise (y ∷ ys) (z ∷ zs) a b f g = by (f y (inl refl)) (g z (inl refl)) (λ e. one_rise ys zs a.1 b.1 (tail_in y z ys zs e a.0 f) (tail_in z y zs ys (sym e) b.0 g))
    where
      by : (y ≡ z) ⊎ In y zs → (z ≡ y) ⊎ In z ys → (y ≡ z → ys ≡ zs) → y ∷ ys ≡ z ∷ zs
      by (inl e) p h = let t = h e in cc
      by (inr i) (inl e) h = let t = h (sym e) in cc
      by (inr i) (inr j) h = absurd (not_below_itself (key y) (key_cmp-total.trans (key y) (key z) (key y) (above_in (key y) z ys a.0 j) (above_in (key z) y zs b.0 i)))

  same_rise : (ys zs : List X) → Rise (map key ys) → Rise (map key zs) → IsPermutation ys zs → ys ≡ zs
  same_rise ys zs a b p = one_rise ys zs a b (in_other ys zs p) (in_other zs ys (IsPermutation-sym ys zs p))

  -- ---- all of them

  -- Put in their places one by one, none held before, they are these.
  abbrev pub ArePut : List X → List X → List X → Type 0
  ArePut ys [] zs = ys ≡ zs
  ArePut ys (x ∷ xs) zs = (is_held key (key x) ys ≡ false) × ArePut (put_in key x ys) xs zs

  put_held : (ys xs zs : List X) → Rise (map key ys) → ArePut ys xs zs → Rise (map key zs) × IsPermutation (ys ++ xs) zs
  put_held ys [] zs a e = (subst (λ l. Rise (map key l)) e a, rw append-nil (subst (λ l. IsPermutation ys l) e (IsPermutation-refl ys)))
  put_held ys (x ∷ xs) zs a h =
      let p = put_in key x ys in
      let m = put_held p xs zs (put_rises x ys a h.0) h.1 in
      (m.0, IsPermutation-trans (ys ++ x ∷ xs) (x ∷ (ys ++ xs)) zs (IsPermutation-middle ys x xs) (IsPermutation-trans (x ∷ (ys ++ xs)) (p ++ xs) zs (IsPermutation-append_left xs (x ∷ ys) p (put_permutes x ys)) m.1))

  rise_apart : (ks : List Key) → Rise ks → IsDistinct (eq_by_cmp key_cmp) ks
  unfolding IsDistinct
  rise_apart [] h = tt
  rise_apart (k ∷ ks) h = IsDistinct-cons (eq_by_cmp key_cmp) k ks (apart ks h.0) (rise_apart ks h.1)
    where
      apart : (qs : List Key) → AllByRecursion (λ q. key_cmp k q ≡ Less) qs → AllByRecursion (λ q. is_eq (key_cmp k q) ≡ false) qs
      apart [] a = tt
      apart (q ∷ qs) a = (ap is_eq a.0, apart qs a.1)

  not_held : (k : Key) (ys xs : List X) → AllByRecursion (λ q. is_eq (key_cmp k q) ≡ false) (map key (ys ++ xs)) → is_held key k ys ≡ false
  not_held k [] xs a = refl
  not_held k (y ∷ ys) xs a = rw a.0 (not_held k ys xs a.1)

  held_put : (ys xs zs : List X) → Rise (map key ys) → Rise (map key zs) → IsPermutation (ys ++ xs) zs → ArePut ys xs zs
  held_put ys [] zs a b p = same_rise ys zs a b (rw append-nil at p)
  held_put ys (x ∷ xs) zs a b p =
      let q = put_in key x ys in
      let moved = IsPermutation-trans (x ∷ (ys ++ xs)) (ys ++ x ∷ xs) zs (IsPermutation-sym (ys ++ x ∷ xs) (x ∷ (ys ++ xs)) (IsPermutation-middle ys x xs)) p in
      let d = IsDistinct-IsPermutation (eq_by_cmp key_cmp) (eq_by_cmp_equiv key_cmp-total).symm (map key zs) (map key (x ∷ (ys ++ xs))) (IsPermutation-map key zs (x ∷ (ys ++ xs)) (IsPermutation-sym (x ∷ (ys ++ xs)) zs moved)) (rise_apart (map key zs) b) in
      let n = not_held (key x) ys xs (IsDistinct-head (eq_by_cmp key_cmp) (key x) (map key (ys ++ xs)) d) in
      (n, held_put q xs zs (put_rises x ys a n) b (IsPermutation-trans (q ++ xs) (x ∷ (ys ++ xs)) zs (IsPermutation-sym (x ∷ (ys ++ xs)) (q ++ xs) (IsPermutation-append_left xs (x ∷ ys) q (put_permutes x ys))) moved))

  pub put_are_held : (xs zs : List X) → ArePut [] xs zs → AreSorted key xs zs
  put_are_held xs zs h = let m = put_held [] xs zs tt h in record { same = m.1; rise = m.0 }

  pub held_are_put : (xs zs : List X) → AreSorted key xs zs → ArePut [] xs zs
  held_are_put xs zs h = held_put [] xs zs tt h.rise h.same

-- ---- a method with its code

pub code_write : (m : Method) (c : Code) (ms : List Method) → is_held method_key (method_key m) ms ≡ false → with_code (put_in method_key m ms) (method_key m) c ≡ put_in method_key (record m { code = Some c }) ms
code_write m c [] n = rw (tied (method_key m)) refl
code_write m c (y ∷ ms) n =
    let o = key_cmp (method_key m) (method_key y) in
    elim (by_kind (is_lt o)) [
      | inl e ↦ rw (e, tied (method_key m)) refl
      | inr e ↦ rw (e, first_false (is_eq (key_cmp (method_key m) (method_key y))) (is_held method_key (method_key m) ms) n) (ap (λ l. y ∷ l) (code_write m c ms (second_false (is_eq o) (is_held method_key (method_key m) ms) n)))
    ]
