-- Names in the order of first need, or sorted, as a set of keys. `key`, `cmp` and `eq` are those of any kind of names.
use Rattle.std.proofs.Common.{◌≡◌, ℕ, ◌+◌, ◌<◌, Bool, true, false, ◌||◌, List, [], ◌∷◌, ◌++◌, map, length, get_or, refl, sym, ap, ◌∙◌, arith, if◌then◌else◌, Option, Some, None, is_some, Result, Ok, Err, MatchResult, subst, IfSome, IfNone, slice_get, option_map, inl, inr, true≢false}
use Rattle.std.specs.declared.cmp.Ordering.{Ordering}
use Rattle.std.specs.declared.cmp.Ordering.TheVariants.{Less, Greater}
use Rattle.std.specs.Ordering.{is_eq, is_lt, eq_by_cmp, ordering_reverse}
use Rattle.std.specs.Cmp.{Equal-is, tied_itself}
use Rattle.std.specs.Option.{SomeIff}
use Rattle.std.specs.Result.{OkIff, result_ok}
use Rattle.std.specs.List.{list_any, position, IsDistinct, AllWithin}
use Rattle.std.specs.List.Sorted.{IsSorted, IsSortedBy, IsPermutation, IsBinarySearchResult, IsSearchInRange}
use Rattle.std.proofs.lemmas.List.{length-map, get_or-map, map-append}
use Rattle.std.proofs.lemmas.List.Folds.{list_any_at}
use Rattle.std.proofs.lemmas.List.Quantifiers.{position-Some}
use Rattle.std.proofs.lemmas.List.Sorted.{list_any-IsPermutation, IsPermutation-map, searchable_from_sorted}
use Rattle.std.proofs.lemmas.Map.Keys.{sorted_from_all_adjacent, apart_from_distinct, Less-from_sorted}
use Rattle.indexmap.specs.IndexSet.{insert_key as insert_last}
use Rattle.program_types.specs.Key.{Key, key_cmp}
use Rattle.program_types.specs.inner.KeyLaws.{key_cmp-total, key_cmp-same}
use Rattle.std.proofs.lemmas.Option.{slice_get-map, slice_get-get_or, slice_get_within, get_or_from_slice_get}
use Rattle.std.proofs.lemmas.Bool.{cases_order}
use Rattle.tables_names.specs.Rank.{Rising, is_member, rank_of, add_all, IsAt}
use Rattle.tables_names.specs.Numbers.{with_last}
use Rattle.tables_names.proofs.RisingLemmas.{less_of, same_rising, rank-at, not_member}
use Rattle.tables_names.proofs.UnionLemmas.{rising-add_all, is_member-add_all, rising-none}

module _ {N : Type 0} (key : N → Key) (eq : N → N → Bool) (by_key : (x y : N) → eq x y ≡ is_eq (key_cmp (key x) (key y))) where
  pub any_keys : (xs : List N) (x : N) → list_any (eq x) xs ≡ is_member (map key xs) (key x)
  any_keys [] x = refl
  any_keys (y ∷ ys) x = λ i. by_key x y i || any_keys ys x i

  -- a name that goes last, if no equal one is there
  pub keys-insert_last : (xs : List N) (x : N) → map key (insert_last eq xs x) ≡ with_last (map key xs) (key x)
  keys-insert_last xs x = by (list_any (eq x) xs) ∙ (λ i. if any_keys xs x i then map key xs else map key xs ++ key x ∷ [])
    where
      by : (b : Bool) → map key (if b then xs else xs ++ x ∷ []) ≡ (if b then map key xs else map key xs ++ key x ∷ [])
      by true = refl
      by false = map-append key xs (x ∷ [])

  -- an equal name has the same key
  pub stored_at : (xs : List N) (x : N) (i : ℕ) → (y : N) × (slice_get xs i ≡ Some y) × (eq x y ≡ true) → IsAt (map key xs) i (key x)
  stored_at xs x i s =
      let same : key x ≡ key s.0 = key_cmp-same (key x) (key s.0) ((Equal-is (key_cmp (key x) (key s.0))).0 (sym (by_key x s.0) ∙ s.2)) in
      slice_get-map key xs i ∙ ap (option_map key) s.1 ∙ ap Some (sym same)

  -- what a look-up finds
  pub found_at : (xs : List N) (x : N) (r : Option ℕ) → r ≡ position (eq x) xs → IfSome r (λ n. IsAt (map key xs) n (key x))
  found_at xs x None at = tt
  found_at xs x (Some i) at =
      let here = position-Some (eq x) xs i x (sym at) in stored_at xs x i (get_or xs i x, slice_get-get_or xs i x here.0, here.1)

  pub none_there : (xs : List N) (x : N) (r : Option ℕ) → is_some r ≡ list_any (eq x) xs → IfNone r (is_member (map key xs) (key x) ≡ false)
  none_there xs x None found = sym (found ∙ any_keys xs x)
  none_there xs x (Some i) found = tt

  -- after a sort the keys rise
  pub sorted_keys : (cmp : N → N → Ordering) → ((x y : N) → cmp x y ≡ key_cmp (key x) (key y)) → (ys : List N) → IsDistinct eq ys → IsSorted cmp ys → Rising (map key ys)
  sorted_keys cmp cmp_by_key [] apart up = rising-none
  sorted_keys cmp cmp_by_key (y ∷ ys) apart up =
      let all = y ∷ ys in
      sorted_from_all_adjacent key_cmp-total (map key all) (key y)
      (λ k lt.
      let in_all : k + 1 < length all = rw length-map at lt in
      let low = get_or all k y in
      let high = get_or all (k + 1) y in
      let less : key_cmp (key low) (key high) ≡ Less =
      less_of key_cmp-total (key low) (key high)
      (ap is_lt (sym (cmp_by_key high low)) ∙ up k y (omega arith) in_all)
      (sym (by_key low high) ∙ apart_from_distinct eq all k (k + 1) y apart (omega arith) in_all) in
      (λ i. key_cmp (get_or-map key all k y (key y) (omega arith) i) (get_or-map key all (k + 1) y (key y) in_all i)) ∙ less)

  -- and are the set
  pub same_keys : (xs ys : List N) → IsPermutation xs ys → Rising (map key ys) → map key ys ≡ add_all [] (map key xs)
  same_keys xs ys moved up =
      same_rising key_cmp-total key_cmp-same (map key ys) (add_all [] (map key xs)) up (rising-add_all [] (map key xs) rising-none)
      (λ q. sym (list_any-IsPermutation (eq_by_cmp key_cmp q) (map key xs) (map key ys) (IsPermutation-map key xs ys moved)) ∙ sym (is_member-add_all [] (map key xs) q))

  -- a name stands once
  not_twice : (xs : List N) → IsDistinct eq xs → (m n : ℕ) (k : Key) → m < n → IsAt (map key xs) m k → IsAt (map key xs) n k → ⊥
  not_twice [] apart m n k lt low high = absurd (cc low)
  not_twice (x ∷ xs) apart m n k lt low high =
      let all = x ∷ xs in
      let within : n < length all = rw length-map at (slice_get_within (map key all) n k high) in
      let p : key (get_or all m x) ≡ k = sym (get_or-map key all m x (key x) (omega arith)) ∙ get_or_from_slice_get (map key all) m k (key x) low in
      let q : key (get_or all n x) ≡ k = sym (get_or-map key all n x (key x) within) ∙ get_or_from_slice_get (map key all) n k (key x) high in
      let same : eq (get_or all m x) (get_or all n x) ≡ true = by_key (get_or all m x) (get_or all n x) ∙ (λ i. is_eq (key_cmp (p i) (q i))) ∙ ap is_eq (tied_itself key_cmp-total k) in
      true≢false (sym same ∙ apart_from_distinct eq all m n x apart lt within)

  -- so it has one number
  pub one_number : (xs : List N) → IsDistinct eq xs → (m n : ℕ) (k : Key) → IsAt (map key xs) m k → IsAt (map key xs) n k → m ≡ n
  one_number xs apart m n k at_m at_n = elim (cases_order m n) [
    | inl same ↦ same
    | inr other ↦ elim other [ inl less ↦ absurd (not_twice xs apart m n k less at_m at_n) | inr more ↦ absurd (not_twice xs apart n m k more at_n at_m) ]
  ]

-- ---- a search in names that are sorted

module _ {N : Type 0} (key : N → Key) (xs : List N) (k : Key) (x : N) where
  abbrev to_k : N → Ordering
  to_k y = key_cmp (key y) k

  sorted : Rising (map key xs) → IsSortedBy (λ a b. is_lt (key_cmp (key a) (key b))) xs
  sorted up i d low high =
      let less = Less-from_sorted key_cmp (map key xs) i (i + 1) (key d) up (omega arith) (rw length-map high) in
      let a = get_or-map key xs i d (key d) (omega arith) in
      let b = get_or-map key xs (i + 1) d (key d) high in
      ap is_lt (key_cmp-total.antisymm (key (get_or xs (i + 1) d)) (key (get_or xs i d)) ∙ ap ordering_reverse ((λ i. key_cmp (sym a i) (sym b i)) ∙ less))

  of_keys : Rising (map key xs) → (r : Result ℕ ℕ) → IsSearchInRange r (length xs) → IsBinarySearchResult to_k xs r → MatchResult r (λ i. (is_member (map key xs) k ≡ true) × (rank_of (map key xs) k ≡ i)) (λ i. is_member (map key xs) k ≡ false)
  of_keys up (Ok i) range is =
      let at : get_or (map key xs) i k ≡ k = get_or-map key xs i x k range ∙ key_cmp-same (key (get_or xs i x)) k (is x) in
      (list_any_at (eq_by_cmp key_cmp k) (map key xs) i k (rw length-map range) (rw at (ap is_eq (tied_itself key_cmp-total k))), rank-at key_cmp-total key_cmp-same (map key xs) i k up (rw length-map range) at)
  of_keys up (Err i) range is =
      let parts = is (searchable_from_sorted key_cmp-total key xs k (sorted up)) in
      let low : AllWithin (λ y. key_cmp y k ≡ Less) (map key xs) 0 i =
      λ j d a b. (λ t. key_cmp (get_or-map key xs j x d (omega arith) t) k) ∙ parts.0 j x a b in
      let high : AllWithin (λ y. key_cmp y k ≡ Greater) (map key xs) i (length (map key xs)) =
      λ j d a b. let b' : j < length xs = rw length-map at b in (λ t. key_cmp (get_or-map key xs j x d b' t) k) ∙ parts.1 j x a b' in
      not_member key_cmp-total key_cmp-same (map key xs) i k low high

-- what a binary search by any order that is the keys' tells of a key, which no name need have
pub searched_key : {N : Type 0} (key : N → Key) (xs : List N) (k : Key) → Rising (map key xs) → (ord : N → Ordering) → ((y : N) → ord y ≡ key_cmp (key y) k) → (r : Result ℕ ℕ) → IsSearchInRange r (length xs) → IsBinarySearchResult ord xs r → MatchResult r (λ i. (is_member (map key xs) k ≡ true) × (rank_of (map key xs) k ≡ i)) (λ i. is_member (map key xs) k ≡ false)
searched_key key [] k up ord alike (Ok i) range is = absurd (omega (arith, range))
searched_key key [] k up ord alike (Err i) range is = refl
searched_key key (x ∷ xs) k up ord alike r range is =
    of_keys key (x ∷ xs) k x up r range (subst (λ (c : _ → Ordering). IsBinarySearchResult c (x ∷ xs) r) (λ i y. alike y i) is)

-- an index that is found is answered where it has 32 bits
pub index_fits : {E : Type 0} (r : Result ℕ E) (P : Type 0) (v : ℕ) → OkIff r P v → SomeIff (result_ok r) ((true ≡ true) × P) v
index_fits (Ok x) P v h = ((refl, h.0), h.1)
index_fits (Err e) P v h = λ q. h q.1
