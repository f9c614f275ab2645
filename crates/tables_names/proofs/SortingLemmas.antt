-- Names that are sorted by the ranks of their parts.
use Rattle.std.proofs.Common.{◌≡◌, ℕ, ◌+◌, ◌<◌, ◌≤◌, set, Bool, false, List, [], ◌∷◌, ◌++◌, map, take, length, get_or, refl, sym, ap, ◌∙◌, arith, All, true, zero, suc, Some, subst, option_map, inl, inr}
use Rattle.std.specs.declared.cmp.Ordering.{Ordering}
use Rattle.std.specs.declared.cmp.Ordering.TheVariants.{Less, Equal, Greater}
use Rattle.std.specs.Ordering.{nat_cmp, is_eq, is_lt, ordering_then}
use Rattle.std.specs.Cmp.{IsEquivalence}
use Rattle.std.specs.List.{IsDistinct, AllZip}
use Rattle.std.specs.List.Sorted.{IsSorted, IsPermutation}
use Rattle.std.proofs.lemmas.List.{length-map, get_or-map, map_push, take_more, get_or-set_other}
use Rattle.std.proofs.lemmas.Grind.{get_or-set_at}
use Rattle.std.proofs.lemmas.Option.{slice_get-map, slice_get-get_or, slice_get_within}
use Rattle.std.proofs.lemmas.Bool.{cases_eq}
use Rattle.std.proofs.lemmas.List.Elements.{All-push, All-same}
use Rattle.std.proofs.lemmas.List.Sorted.{IsPermutation-map, All-permutation}
use Rattle.std.proofs.lemmas.Map.Keys.{IsDistinct-IsPermutation}
use Rattle.program_types.specs.Key.{Key, key_cmp, units_cmp}
use Rattle.program_types.specs.KeyLaws.{ordering_then-equal}
use Rattle.tables_names.specs.Rank.{Rising, IsAt, is_member, add_all}
use Rattle.tables_names.specs.inner.Rank.{RanksDecide}
use Rattle.tables_names.specs.Numbers.{set_of, TypeAt, ProtoAt, FieldAt, MethodAt, RanksOf}
use Rattle.tables_names.specs.declared.parts.TypeParts.{TypeParts}
use Rattle.tables_names.specs.declared.parts.ProtoParts.{ProtoParts}
use Rattle.tables_names.specs.declared.parts.FieldParts.{FieldParts}
use Rattle.tables_names.specs.declared.parts.MethodParts.{MethodParts}
use Rattle.tables_names.proofs.NameSetLemmas.{sorted_keys, same_keys}
use Rattle.tables_names.proofs.IndexLemmas.{units_by_index}
use Rattle.tables_names.proofs.RowLemmas.{keys_compare_as_indices}
use Rattle.tables_names.proofs.PlaceLemmas.{member_at, member_index, one_key}
use Rattle.tables_names.proofs.NumberLemmas.{zip_from, zip_get, member_of_set}
use Rattle.dex_base.proofs.ListFacts.{zip_length}

-- what the names answer is what their ranks do
same_leads : (ranks names : Ordering) → ranks ≡ names → RanksDecide ranks names
same_leads ranks Less e = rw e refl
same_leads ranks _ e = rw e refl

-- what is not less is not so before the numbers compare
first_not_less : (a b : Ordering) → is_lt (ordering_then a b) ≡ false → is_lt a ≡ false
first_not_less Less b h = h
first_not_less Equal b h = refl
first_not_less Greater b h = refl

-- or what they begin with
first_leads : (ranks first rest : Ordering) → ranks ≡ first → RanksDecide ranks (ordering_then first rest)
first_leads ranks Less rest e = rw e refl
first_leads ranks _ rest e = rw e refl

-- ---- rows: the ranks of a name's parts, the name, its number

module _ {N R : Type 0} where
  -- one more row
  pub names_pushed : (names : List N) (rows new : List (R × N × ℕ)) (i : ℕ) (name : N) (ranks : R) (number : ℕ) → i < length names → name ≡ get_or names i name → new ≡ rows ++ (ranks, name, number) ∷ [] → map (λ r. r.1) rows ≡ take i names → map (λ r. r.1) new ≡ take (i + 1) names
  names_pushed names rows new i name ranks number lt at pushed so_far =
      ap (map (λ r. r.1)) pushed ∙ map_push (λ r. r.1) rows (ranks, name, number) ∙ (λ t. so_far t ++ at t ∷ []) ∙ sym (take_more names i name lt)

  pub row_pushed : (P : R × N × ℕ → Type 0) (rows new : List (R × N × ℕ)) (row : R × N × ℕ) → new ≡ rows ++ row ∷ [] → All P rows → P row → All P new
  row_pushed P rows new row pushed so_far here = All-same P new (rows ++ row ∷ []) pushed (All-push P rows row so_far here)

  -- names in another order still differ
  pub names_distinct : (eq : N → N → Bool) → IsEquivalence eq → (names : List N) (xs ys : List (R × N × ℕ)) → map (λ p. p.1) xs ≡ names → IsPermutation xs ys → IsDistinct eq names → IsDistinct eq (map (λ p. p.1) ys)
  names_distinct eq laws names xs ys are moved apart =
      IsDistinct-IsPermutation eq laws.symm (map (λ p. p.1) xs) (map (λ p. p.1) ys) (IsPermutation-map (λ p. p.1) xs ys moved) (rw are apart)

  -- and are the same names
  names_moved : (names : List N) (xs ys : List (R × N × ℕ)) → map (λ p. p.1) xs ≡ names → IsPermutation xs ys → IsPermutation names (map (λ p. p.1) ys)
  names_moved names xs ys are moved = rw (← are) (IsPermutation-map (λ p. p.1) xs ys moved)

  module _ (key : N → Key) (cmp : N → N → Ordering) (cmp_by_key : (x y : N) → cmp x y ≡ key_cmp (key x) (key y)) (ranks_cmp : R → R → Ordering) (Has : N → R → Type 0) (alike : (x y : N) (r s : R) → Has x r → Has y s → RanksDecide (ranks_cmp r s) (key_cmp (key x) (key y))) where
    -- pairs that are sorted have names that are
    names_sorted : (ys : List (R × N × ℕ)) → All (λ p. Has p.1 p.0) ys → IsSorted (λ p q. ordering_then (ordering_then (ranks_cmp p.0 q.0) (cmp p.1 q.1)) (nat_cmp p.2 q.2)) ys → IsSorted cmp (map (λ p. p.1) ys)
    names_sorted [] has up i d low high = absurd (omega arith)
    names_sorted (y ∷ ys) has up i d low high =
        let all = y ∷ ys in
        let b : i + 1 < length all = rw length-map at high in
        let a : i < length all = omega arith in
        let p = get_or all i y in
        let q = get_or all (i + 1) y in
        let leads : ordering_then (ranks_cmp q.0 p.0) (key_cmp (key q.1) (key p.1)) ≡ key_cmp (key q.1) (key p.1) = alike q.1 p.1 q.0 p.0 (has (i + 1) y b) (has i y a) in
        let whole : cmp q.1 p.1 ≡ ordering_then (ranks_cmp q.0 p.0) (cmp q.1 p.1) = cmp_by_key q.1 p.1 ∙ sym leads ∙ (λ t. ordering_then (ranks_cmp q.0 p.0) (sym (cmp_by_key q.1 p.1) t)) in
        (λ t. is_lt (cmp (get_or-map (λ p. p.1) all (i + 1) y d b t) (get_or-map (λ p. p.1) all i y d a t))) ∙ ap is_lt whole ∙ first_not_less (ordering_then (ranks_cmp q.0 p.0) (cmp q.1 p.1)) (nat_cmp q.2 p.2) (up i y low b)

    module _ (eq : N → N → Bool) (laws : IsEquivalence eq) (by_key : (x y : N) → eq x y ≡ is_eq (key_cmp (key x) (key y))) (names : List N) (old new : List (R × N × ℕ)) (are : map (λ p. p.1) old ≡ names)
        (moved : IsPermutation old new) (apart : IsDistinct eq names) (has : All (λ p. Has p.1 p.0) old) (up : IsSorted (λ p q. ordering_then (ordering_then (ranks_cmp p.0 q.0) (cmp p.1 q.1)) (nat_cmp p.2 q.2)) new) where
      -- their keys rise
      pub names_rise : Rising (map key (map (λ p. p.1) new))
      names_rise =
          sorted_keys key eq by_key cmp cmp_by_key (map (λ p. p.1) new) (names_distinct eq laws names old new are moved apart) (names_sorted new (All-permutation (λ p. Has p.1 p.0) old new moved has) up)

      -- and are the set
      pub names_same : map key (map (λ p. p.1) new) ≡ add_all [] (map key names)
      names_same = same_keys key eq by_key names (map (λ p. p.1) new) (names_moved names old new are moved) names_rise

-- ---- what stands beside names

module _ {N : Type 0} (key : N → Key) where
  -- a name has its number
  pub name_at : (names : List N) (i : ℕ) (x : N) → i < length names → x ≡ get_or names i x → IsAt (map key names) i (key x)
  name_at names i x lt at = slice_get-map key names i ∙ ap (option_map key) (slice_get-get_or names i x lt) ∙ ap (λ y. Some (key y)) (sym at)

  -- what stands beside the keys stands beside a name
  pub beside : {P : Type 0} (R : Key → P → Type 0) (names : List N) (parts : List P) (i : ℕ) (x : N) (p : P) → AllZip R (map key names) parts → i < length names → x ≡ get_or names i x → p ≡ get_or parts i p → R (key x) p
  beside {P = P} R names parts i x p all lt at part =
      subst (λ (q : P). R (key x) q) (sym part) (zip_get R (map key names) parts i (key x) p all (name_at names i x lt at))

  pub beside_length : {P : Type 0} (R : Key → P → Type 0) (names : List N) (parts : List P) (i : ℕ) → AllZip R (map key names) parts → i < length names → i < length parts
  beside_length R names parts i all lt = let same = zip_length R (map key names) parts all in omega (arith, lt, same, length-map names key)

  -- what stands beside sorted names
  pub rows_stand : {P : Type 0} (Has : Key → P → Type 0) (ys : List (P × N × ℕ)) → All (λ r. Has (key r.1) r.0) ys → AllZip Has (map key (map (λ r. r.1) ys)) (map (λ r. r.0) ys)
  rows_stand Has [] all = tt
  rows_stand Has (y ∷ ys) all = (all zero y (omega arith), rows_stand Has ys (λ i d lt. all (suc i) d (omega (arith, lt))))

  pub numbers_stand : {P : Type 0} (Has : Key → ℕ → Type 0) (ys : List (P × N × ℕ)) → All (λ r. Has (key r.1) r.2) ys → AllZip Has (map key (map (λ r. r.1) ys)) (map (λ r. r.2) ys)
  numbers_stand Has [] all = tt
  numbers_stand Has (y ∷ ys) all = (all zero y (omega arith), numbers_stand Has ys (λ i d lt. all (suc i) d (omega (arith, lt))))

-- ---- ranks that are written at the numbers of the names

-- for each of the first i rows there stands, at the number of its name, a rank of the name
pub record ArePlaced (table : List Key) (numbers : List ℕ) (i : ℕ) (ranks : List ℕ) : Type 0 where
  pub each : (j : ℕ) (k : Key) → j < i → IsAt table j k → IsAt table (get_or ranks (get_or numbers j 0) 0) k

pub none_placed : (table : List Key) (numbers ranks : List ℕ) → ArePlaced table numbers 0 ranks
none_placed table numbers ranks = record { each = λ j k lt at. absurd (omega (arith, lt)) }

module _ (names table : List Key) (numbers : List ℕ) (stand : RanksOf table names numbers) where
  -- a name's number is one of a name
  pub number_within : (i : ℕ) → i < length numbers → get_or numbers i 0 < length names
  number_within i lt =
      let own : Key = get_or table i [] in
      let here : IsAt table i own = slice_get-get_or table i [] (omega (arith, lt, zip_length (λ k n. IsAt names n k) table numbers stand)) in
      slice_get_within names (get_or numbers i 0) own (zip_get (λ k n. IsAt names n k) table numbers i own 0 stand here)

  -- the next rank
  pub next_placed : (i : ℕ) (old new : List ℕ) → i < length numbers → length old ≡ length names → new ≡ set old (get_or numbers i 0) i → ArePlaced table numbers i old → ArePlaced table numbers (i + 1) new
  next_placed i old new lt long is so_far =
      let m = get_or numbers i 0 in
      let own : Key = get_or table i [] in
      let here : IsAt table i own = slice_get-get_or table i [] (omega (arith, lt, zip_length (λ k n. IsAt names n k) table numbers stand)) in
      let named : IsAt names m own = zip_get (λ k n. IsAt names n k) table numbers i own 0 stand here in
      let room : m < length old = omega (arith, number_within i lt, long) in
      record {
        each = λ j k before at.
            let n = get_or numbers j 0 in
            let its : IsAt names n k = zip_get (λ k n. IsAt names n k) table numbers j k 0 stand at in
            elim (cases_eq n m) [
              | inl same ↦
                  (let one : own ≡ k = one_key names m own k named (subst (λ (q : ℕ). IsAt names q k) same its) in
                  let value : get_or new n 0 ≡ i = ap (λ l. get_or l n 0) is ∙ get_or-set_at old m n i 0 same room in
                  subst (λ (q : ℕ). IsAt table q k) (sym value) (here ∙ ap Some one))
              | inr other ↦
                  (let value : get_or new n 0 ≡ get_or old n 0 = ap (λ l. get_or l n 0) is ∙ get_or-set_other old m n i 0 other in
                  let apart : j ≡ i → ⊥ = λ e. other (ap (λ q. get_or numbers q 0) e) in
                  let less : j < i = omega (arith, before, apart) in
                  subst (λ (q : ℕ). IsAt table q k) (sym value) (so_far.each j k less at))
            ];
      }

  -- once all are written, at each number stands the rank of its name
  pub all_placed : ((m n : ℕ) (k : Key) → IsAt names m k → IsAt names n k → m ≡ n) → table ≡ set_of names → (i : ℕ) (ranks : List ℕ) → length numbers ≤ i → length ranks ≡ length names → ArePlaced table numbers i ranks → RanksOf names table ranks
  all_placed once is i ranks all long placed =
      zip_from (λ k rank. IsAt table rank k) names ranks 0 (sym long)
      (λ n k at.
      let member : is_member table k ≡ true = ap (λ l. is_member l k) is ∙ member_of_set names k ∙ member_at names n k at in
      let row = member_index table k member in
      let its : IsAt names (get_or numbers row.0 0) k = zip_get (λ k n. IsAt names n k) table numbers row.0 k 0 stand row.1 in
      let lt : row.0 < i = omega (arith, slice_get_within table row.0 k row.1, zip_length (λ k n. IsAt names n k) table numbers stand, all) in
      subst (λ (m : ℕ). IsAt table (get_or ranks m 0) k) (once (get_or numbers row.0 0) n k its at) (placed.each row.0 k lt row.1))

-- ---- the ranks of each kind

pub text_ranks : (strings : List Key) → Rising strings → (j k : Key) (p q : TypeParts) → TypeAt strings j p → TypeAt strings k q → RanksDecide (nat_cmp p.text q.text) (key_cmp j k)
text_ranks strings up [] k p q a b = absurd a
text_ranks strings up (x ∷ o ∷ j) k p q a b = absurd a
text_ranks strings up (x ∷ []) [] p q a b = absurd b
text_ranks strings up (x ∷ []) (y ∷ o ∷ k) p q a b = absurd b
text_ranks strings up (x ∷ []) (y ∷ []) p q a b =
    same_leads (nat_cmp p.text q.text) (key_cmp (x ∷ []) (y ∷ [])) (sym (keys_compare_as_indices strings p.text q.text (x ∷ []) (y ∷ []) up a b))

pub ret_ranks : (types : List Key) → Rising types → (j k : Key) (p q : ProtoParts) → ProtoAt types j p → ProtoAt types k q → RanksDecide (nat_cmp p.ret q.ret) (key_cmp j k)
ret_ranks types up [] k p q a b = absurd a
ret_ranks types up (x ∷ j) [] p q a b = absurd b
ret_ranks types up (x ∷ j) (y ∷ k) p q a b = first_leads (nat_cmp p.ret q.ret) (units_cmp x y) (key_cmp j k) (sym (units_by_index types p.ret q.ret x y up a b))

module _ (strings types : List Key) (s_up : Rising strings) (t_up : Rising types) where
  -- three ranks, of which the first that differs decides
  abbrev pub field_cmp : FieldParts → FieldParts → Ordering
  field_cmp p q = ordering_then (nat_cmp p.class q.class) (ordering_then (nat_cmp p.name q.name) (nat_cmp p.ty q.ty))

  -- which is how the fields compare
  pub field_ranks_cmp : (j k : Key) (p q : FieldParts) → FieldAt types strings j p → FieldAt types strings k q → field_cmp p q ≡ key_cmp j k
  field_ranks_cmp [] k p q a b = absurd a
  field_ranks_cmp (c ∷ []) k p q a b = absurd a
  field_ranks_cmp (c ∷ n ∷ []) k p q a b = absurd a
  field_ranks_cmp (c ∷ n ∷ t ∷ o ∷ j) k p q a b = absurd a
  field_ranks_cmp (c ∷ n ∷ t ∷ []) [] p q a b = absurd b
  field_ranks_cmp (c ∷ n ∷ t ∷ []) (d ∷ []) p q a b = absurd b
  field_ranks_cmp (c ∷ n ∷ t ∷ []) (d ∷ m ∷ []) p q a b = absurd b
  field_ranks_cmp (c ∷ n ∷ t ∷ []) (d ∷ m ∷ u ∷ o ∷ k) p q a b = absurd b
  field_ranks_cmp (c ∷ n ∷ t ∷ []) (d ∷ m ∷ u ∷ []) p q a b =
      λ i. ordering_then (sym (units_by_index types p.class q.class c d t_up a.0 b.0) i) (ordering_then (sym (units_by_index strings p.name q.name n m s_up a.1 b.1) i) ((sym (units_by_index types p.ty q.ty t u t_up a.2 b.2) ∙ ordering_then-equal (units_cmp t u)) i))

  pub field_ranks_lead : (j k : Key) (p q : FieldParts) → FieldAt types strings j p → FieldAt types strings k q → RanksDecide (field_cmp p q) (key_cmp j k)
  field_ranks_lead j k p q a b = same_leads (field_cmp p q) (key_cmp j k) (field_ranks_cmp j k p q a b)

  module _ (protos : List Key) (p_up : Rising protos) where
    abbrev pub method_cmp : MethodParts → MethodParts → Ordering
    method_cmp p q = ordering_then (nat_cmp p.class q.class) (ordering_then (nat_cmp p.name q.name) (nat_cmp p.proto q.proto))

    pub method_ranks_cmp : (j k : Key) (p q : MethodParts) → MethodAt types strings protos j p → MethodAt types strings protos k q → method_cmp p q ≡ key_cmp j k
    method_ranks_cmp [] k p q a b = absurd a
    method_ranks_cmp (c ∷ []) k p q a b = absurd a
    method_ranks_cmp (c ∷ n ∷ []) k p q a b = absurd a
    method_ranks_cmp (c ∷ n ∷ x ∷ j) [] p q a b = absurd b
    method_ranks_cmp (c ∷ n ∷ x ∷ j) (d ∷ []) p q a b = absurd b
    method_ranks_cmp (c ∷ n ∷ x ∷ j) (d ∷ m ∷ []) p q a b = absurd b
    method_ranks_cmp (c ∷ n ∷ x ∷ j) (d ∷ m ∷ y ∷ k) p q a b =
        λ i. ordering_then (sym (units_by_index types p.class q.class c d t_up a.0 b.0) i) (ordering_then (sym (units_by_index strings p.name q.name n m s_up a.1 b.1) i) (sym (keys_compare_as_indices protos p.proto q.proto (x ∷ j) (y ∷ k) p_up a.2 b.2) i))

    pub method_ranks_lead : (j k : Key) (p q : MethodParts) → MethodAt types strings protos j p → MethodAt types strings protos k q → RanksDecide (method_cmp p q) (key_cmp j k)
    method_ranks_lead j k p q a b = same_leads (method_cmp p q) (key_cmp j k) (method_ranks_cmp j k p q a b)
