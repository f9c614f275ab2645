-- Labels whose names rise, and labels after them.
use Rattle.std.proofs.Common.{◌≡◌, ℕ, zero, suc, ◌+◌, ◌-◌, ◌<◌, true, false, inl, inr, List, [], ◌∷◌, ◌++◌, length, map, get_or, slice_get, Option, Some, None, is_some, Result, Ok, Err, MatchResult, refl, sym, ap, ◌∙◌, arith, true≢false, nat_cmp}
use Rattle.std.specs.Borrow.{Bor}
use Rattle.std.specs.declared.cmp.Ordering.{Ordering}
use Rattle.std.specs.declared.cmp.Ordering.TheVariants.{Less, Equal}
use Rattle.std.specs.Ordering.{is_lt, is_eq, ordering_reverse, ordering_then}
use Rattle.std.specs.Cmp.{IsTotalOrder}
use Rattle.std.specs.Cmp.Lexicographic.{slice_cmp}
use Rattle.std.specs.List.{AllByRecursion}
use Rattle.std.specs.List.Sorted.{IsStrictlySortedBy, IsSortedBy, IsBinarySearchResult, IsSearchInRange}
use Rattle.std.proofs.lemmas.Bool.{and_parts, and_from, and_right, cases_Bool, cases_lt}
use Rattle.std.proofs.Math.Bool.{and-true}
use Rattle.std.proofs.lemmas.Cmp.{then_total, on_total, nat_cmp_total, nat_list_cmp_total, tied_itself}
use Rattle.std.proofs.lemmas.List.{get_or-map, length-map, append-nil, append_assoc}
use Rattle.std.proofs.lemmas.Option.{slice_get-get_or, get_or_from_slice_get}
use Rattle.std.proofs.lemmas.Map.Keys.{Less-from_sorted}
use Rattle.std.proofs.lemmas.Map.Lookups.{exact_bytes}
use Rattle.std.proofs.lemmas.List.Sorted.{searchable_from_sorted}
use Rattle.listing_slots.specs.Keys.{same}
use Rattle.listing_lines.specs.declared.known.Place.{Place}
use Rattle.listing_lines.specs.Labels.{Label, lookup, with_label}
use Rattle.listing_lines.specs.inner.Order.{shortlex, is_above, LabelsRise}
use Rattle.listing_lines.specs.inner.View.{label, place_in}
use Rattle.listing_slots.proofs.KeyLaws.{same_true}
use Rattle.listing_slots.proofs.ShownLaws.{same_refl}

shortlex_total : IsTotalOrder shortlex
shortlex_total = then_total (on_total (λ (n : List ℕ). length n) nat_cmp_total) nat_list_cmp_total

abbrev by_name : Label → Label → Ordering
by_name a b = shortlex a.name b.name

-- ---- names that are apart

apart : (n m : List ℕ) → is_eq (shortlex m n) ≡ false → same n m ≡ false
apart n m h = elim (cases_Bool (same n m)) [
  | inl e ↦ let i : n ≡ m = same_true n m e in
      let f : is_eq (shortlex m m) ≡ false = rw i at h in
      absurd (true≢false (sym (ap is_eq (tied_itself shortlex_total m)) ∙ f))
  | inr e ↦ e
]

pub lt_less : (o : Ordering) → is_lt o ≡ true → o ≡ Less
lt_less Less e = refl
lt_less _ e = absurd cc

then_equal : (o p : Ordering) → ordering_then o p ≡ Equal → p ≡ Equal
then_equal Equal p e = e
then_equal _ p e = absurd cc

equal_same : (m n : List ℕ) → shortlex m n ≡ Equal → m ≡ n
equal_same m n e = exact_bytes m n (then_equal (nat_cmp (length m) (length n)) (slice_cmp nat_cmp m n) e)

-- ---- above all

pub above_missing : (ls : List Label) (n : List ℕ) → is_above ls n ≡ true → lookup n ls ≡ None
above_missing [] n e = refl
above_missing (l ∷ ls) n e =
    let p = and_parts (is_lt (shortlex l.name n)) (is_above ls n) e in
    rw (apart n l.name (ap is_eq (lt_less (shortlex l.name n) p.0))) (above_missing ls n p.1)

-- among names that rise the last decides
above_last : (ls : List Label) (n : List ℕ) (i : ℕ) (d : Label) → LabelsRise ls → suc i ≡ length ls → is_lt (shortlex (get_or ls i d).name n) ≡ is_above ls n
unfolding IsStrictlySortedBy
above_last [] n i d up h = absurd (omega arith)
above_last (l ∷ []) n zero d up h = sym (and-true (is_lt (shortlex l.name n)))
above_last (l ∷ m ∷ ls) n zero d up h = absurd (omega arith)
above_last (l ∷ ls) n (suc i) d up h =
    let j : suc i ≡ length ls = omega arith in
    let below : shortlex l.name (get_or ls i d).name ≡ Less = Less-from_sorted by_name (l ∷ ls) 0 (suc i) d up (omega arith) (omega arith) in
    let step = above_last ls n i d up.1 j in
    elim (cases_Bool (is_lt (shortlex (get_or ls i d).name n))) [
      | inl e ↦ e ∙ sym (and_from _ _ (ap is_lt (shortlex_total.trans l.name (get_or ls i d).name n below (lt_less _ e))) (sym step ∙ e))
      | inr e ↦ e ∙ sym (and_right _ _ (sym step ∙ e))
    ]

pub above_by_last : (xs : List (Bor (List ℕ) × Place)) (n : List ℕ) (e : Bor (List ℕ) × Place) → LabelsRise (map label xs) → Some e ≡ slice_get xs (length xs - 1) → is_lt (shortlex e.0.now n) ≡ is_above (map label xs) n
above_by_last [] n e up s = absurd cc
above_by_last (x ∷ xs) n e up s =
    let i = length (x ∷ xs) - 1 in
    let g : get_or (x ∷ xs) i e ≡ e = get_or_from_slice_get (x ∷ xs) i e e (sym s) in
    let m : get_or (map label (x ∷ xs)) i (label e) ≡ label e = get_or-map label (x ∷ xs) i e (label e) (omega arith) ∙ ap label g in
    ap (λ (l : Label). is_lt (shortlex l.name n)) (sym m) ∙ above_last (map label (x ∷ xs)) n i (label e) up (rw length-map (omega arith))

all_push : (ls : List Label) (l m : Label) → AllByRecursion (λ (x : Label). shortlex l.name x.name ≡ Less) ls → shortlex l.name m.name ≡ Less → AllByRecursion (λ (x : Label). shortlex l.name x.name ≡ Less) (ls ++ m ∷ [])
all_push [] l m a e = (e, tt)
all_push (x ∷ xs) l m a e = (a.0, all_push xs l m a.1 e)

pub rising_push : (ls : List Label) (m : Label) → LabelsRise ls → is_above ls m.name ≡ true → LabelsRise (ls ++ m ∷ [])
unfolding IsStrictlySortedBy
rising_push [] m up e = (tt, tt)
rising_push (l ∷ ls) m up e =
    let p = and_parts (is_lt (shortlex l.name m.name)) (is_above ls m.name) e in
    (all_push ls l m up.0 (lt_less (shortlex l.name m.name) p.0), rising_push ls m up.1 p.1)

pub rising_none : LabelsRise []
unfolding IsStrictlySortedBy
rising_none = tt

-- ---- searched

pub found_at : (ls : List Label) (i : ℕ) (d : Label) → LabelsRise ls → i < length ls → lookup (get_or ls i d).name ls ≡ Some (get_or ls i d)
unfolding IsStrictlySortedBy
found_at [] i d up h = absurd (omega arith)
found_at (l ∷ ls) zero d up h = rw (same_refl l.name) refl
found_at (l ∷ ls) (suc i) d up h =
    let below : shortlex l.name (get_or ls i d).name ≡ Less = Less-from_sorted by_name (l ∷ ls) 0 (suc i) d up (omega arith) h in
    rw (apart (get_or ls i d).name l.name (ap is_eq below)) (found_at ls i d up.1 (omega arith))

none_same : (ls : List Label) (n : List ℕ) (d : Label) → ((j : ℕ) → j < length ls → same n (get_or ls j d).name ≡ false) → lookup n ls ≡ None
none_same [] n d f = refl
none_same (l ∷ ls) n d f = rw (f 0 (omega arith)) (none_same ls n d (λ j h. f (suc j) (omega arith)))

pub there : (xs : List (Bor (List ℕ) × Place)) (n : List ℕ) (i : ℕ) (e : Bor (List ℕ) × Place) → LabelsRise (map label xs) → Some e ≡ slice_get xs i → i < length xs → e.0.now ≡ n → Some e.1 ≡ place_in (lookup n (map label xs))
there xs n i e up s h same_name =
    let g : get_or (map label xs) i (label e) ≡ label e = get_or-map label xs i e (label e) h ∙ ap label (get_or_from_slice_get xs i e e (sym s)) in
    let f : lookup (label e).name (map label xs) ≡ Some (label e) = rw g at (found_at (map label xs) i (label e) up (rw length-map h)) in
    sym (ap place_in (rw same_name at f))

module _ (xs : List (Bor (List ℕ) × Place)) (n : List ℕ) (x : Bor (List ℕ) × Place) where
  abbrev to_n : Bor (List ℕ) × Place → Ordering
  to_n e = shortlex e.0.now n

  sorted : LabelsRise (map label xs) → IsSortedBy (λ a b. is_lt (shortlex a.0.now b.0.now)) xs
  sorted up i d low high =
      let less = Less-from_sorted by_name (map label xs) i (i + 1) (label d) up (omega arith) (rw length-map high) in
      let a = get_or-map label xs i d (label d) (omega arith) in
      let b = get_or-map label xs (i + 1) d (label d) high in
      ap is_lt (shortlex_total.antisymm (get_or xs (i + 1) d).0.now (get_or xs i d).0.now ∙ ap ordering_reverse ((λ k. by_name (sym a k) (sym b k)) ∙ less))

  pub searched : LabelsRise (map label xs) → (r : Result ℕ ℕ) → IsSearchInRange r (length xs) → IsBinarySearchResult to_n xs r
      → MatchResult r (λ i. place_in (lookup n (map label xs)) ≡ Some (get_or xs i x).1) (λ i. lookup n (map label xs) ≡ None)
  searched up (Ok i) range is =
      sym (there xs n i (get_or xs i x) up (sym (slice_get-get_or xs i x range)) range (equal_same (get_or xs i x).0.now n (is x)))
  searched up (Err i) range is =
      let parts = is (searchable_from_sorted shortlex_total (λ (e : Bor (List ℕ) × Place). e.0.now) xs n (sorted up)) in
      none_same (map label xs) n (label x) (λ j h.
      let k : j < length xs = rw length-map at h in
      rw (get_or-map label xs j x (label x) k) (apart n (get_or xs j x).0.now (elim (cases_lt j i) [
        | inl low ↦ ap is_eq (parts.0 j x (omega arith) low)
        | inr high ↦ ap is_eq (parts.1 j x high k)
      ])))

-- ---- labels after labels

pub in_front : (fs rs : List Label) (n : List ℕ) (p : Place) → Some p ≡ place_in (lookup n fs) → Some p ≡ place_in (lookup n (fs ++ rs))
in_front [] rs n p e = absurd cc
in_front (f ∷ fs) rs n p e = elim (cases_Bool (same n f.name)) [
  | inl y ↦ rw y (rw y at e)
  | inr m ↦ rw m (in_front fs rs n p (rw m at e))
]

after : (fs rs : List Label) (n : List ℕ) → None ≡ place_in (lookup n fs) → lookup n (fs ++ rs) ≡ lookup n rs
after [] rs n e = refl
after (f ∷ fs) rs n e = elim (cases_Bool (same n f.name)) [
  | inl y ↦ let z : None ≡ place_in (Some f) = rw y at e in absurd cc
  | inr m ↦ rw m (after fs rs n (rw m at e))
]

pub in_rest : (fs rs : List Label) (n : List ℕ) (o : Option Place) → None ≡ place_in (lookup n fs) → o ≡ place_in (lookup n rs) → o ≡ place_in (lookup n (fs ++ rs))
in_rest fs rs n o e f = f ∙ ap place_in (sym (after fs rs n e))

-- what is above all goes last
pub goes_above : (fs rs : List Label) (l : Label) → rs ≡ [] → is_above fs l.name ≡ true → (fs ++ l ∷ []) ++ rs ≡ with_label (fs ++ rs) l
goes_above fs rs l none e = rw none (simp append-nil (rw (above_missing fs l.name e) refl))

known_in_front : (fs rs : List Label) (n : List ℕ) (o : Option Place) → o ≡ place_in (lookup n fs) → is_some o ≡ true → is_some (lookup n (fs ++ rs)) ≡ true
known_in_front fs rs n None e s = absurd cc
known_in_front fs rs n (Some p) e s = some_placed (lookup n (fs ++ rs)) p (in_front fs rs n p e)
  where
    some_placed : (q : Option Label) (p : Place) → Some p ≡ place_in q → is_some q ≡ true
    some_placed None p e = absurd cc
    some_placed (Some l) p e = refl

pub stays : (fs rs : List Label) (l : Label) (o : Option Place) → o ≡ place_in (lookup l.name fs) → is_some o ≡ true → fs ++ rs ≡ with_label (fs ++ rs) l
stays fs rs l o e s = rw (known_in_front fs rs l.name o e s) refl

pub goes_after : (fs rs new : List Label) (l : Label) (o : Option Place) → o ≡ place_in (lookup l.name fs) → is_some o ≡ false → new ≡ with_label rs l → fs ++ new ≡ with_label (fs ++ rs) l
goes_after fs rs new l (Some p) e s n = absurd cc
goes_after fs rs new l None e s n = elim (cases_Bool (is_some (lookup l.name rs))) [
  | inl y ↦ rw (n, after fs rs l.name e, y) refl
  | inr m ↦ rw (n, after fs rs l.name e, m) (sym (append_assoc fs rs (l ∷ [])))
]
