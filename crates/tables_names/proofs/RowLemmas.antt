-- The laws over the definitions.
use Rattle.std.proofs.Common.{◌≡◌, ℕ, ◌<◌, ◌≤◌, List, [], ◌∷◌, map, length, refl, sym, ◌∙◌, subst}
use Rattle.std.specs.Ordering.{nat_cmp, is_lt, ordering_then}
use Rattle.std.specs.List.{AllByRecursion}
use Rattle.std.specs.Cmp.Lexicographic.{slice_cmp}
use Rattle.std.proofs.lemmas.List.Elements.{All-from_recursion}
use Rattle.std.proofs.lemmas.Option.{slice_get_within, get_or_from_slice_get}
use Rattle.program_types.specs.Key.{Key, key_cmp, units_cmp}
use Rattle.program_types.specs.KeyLaws.{ordering_then-equal}
use Rattle.program_types.specs.inner.KeyLaws.{key_cmp-total, key_cmp-same}
use Rattle.tables_names.specs.Rank.{IndexIsAtLeastRank, Rising, add_all, is_member, rank_of}
use Rattle.tables_names.specs.inner.Rank.{KeysCompareAsIndices, SetsAreTheirMembers}
use Rattle.tables_names.specs.Rows.{first_of}
use Rattle.tables_names.specs.inner.Rows.{text_at, AreTexts, field_of_row, method_of_row, row_cmp, TypesRise, ProtosRise, FieldsRise, MethodsRise}
use Rattle.tables_names.proofs.RisingLemmas.{rank-at, count-subset, places_cmp, rows_rise, same_rising}
use Rattle.std.specs.Cmp.{both_ways}
use Rattle.tables_names.proofs.UnionLemmas.{rising-add_all, is_member-add_all, rising-none}

pub index_is_at_least_rank : IndexIsAtLeastRank
index_is_at_least_rank set table i k up high each at =
    let there = rank-at key_cmp-total key_cmp-same table i k high (slice_get_within table i k at) (get_or_from_slice_get table i k k at) in
    let le = count-subset key_cmp-total key_cmp-same (λ q. is_lt (key_cmp q k)) set table up each.each in
    subst (λ (n : ℕ). rank_of set k ≤ n) there le

pub keys_compare_as_indices : KeysCompareAsIndices
keys_compare_as_indices table i j a b up at_i at_j =
    (λ t. key_cmp (sym (get_or_from_slice_get table i a [] at_i) t) (sym (get_or_from_slice_get table j b [] at_j) t)) ∙ places_cmp key_cmp-total key_cmp-same table i j [] up (slice_get_within table i a at_i) (slice_get_within table j b at_j)

-- texts of a rising table compare as their places do
texts_cmp : (table : List Key) (i j : ℕ) → Rising table → AreTexts table → i < length table → j < length table → units_cmp (text_at table i) (text_at table j) ≡ nat_cmp i j
texts_cmp table i j up texts a b =
    let one = All-from_recursion (λ k. k ≡ first_of k ∷ []) table texts in
    ordering_then-equal (units_cmp (text_at table i) (text_at table j)) ∙ (λ t. key_cmp (sym (one i [] a) t) (sym (one j [] b) t)) ∙ places_cmp key_cmp-total key_cmp-same table i j [] up a b

pub types_rise : TypesRise
types_rise strings rows up texts valid sorted =
    rows_rise key_cmp-total key_cmp-same nat_cmp (λ i. text_at strings i ∷ []) (λ i. i < length strings)
    (λ i j a b. sym (ordering_then-equal (units_cmp (text_at strings i) (text_at strings j))) ∙ texts_cmp strings i j up texts a b) rows valid sorted

-- lists of texts compare as the lists of their places do
lists_cmp : (table : List Key) → Rising table → AreTexts table → (xs ys : List ℕ) → AllByRecursion (λ i. i < length table) xs → AllByRecursion (λ i. i < length table) ys → key_cmp (map (text_at table) xs) (map (text_at table) ys) ≡ slice_cmp nat_cmp xs ys
lists_cmp table up texts [] [] a b = refl
lists_cmp table up texts [] (y ∷ ys) a b = refl
lists_cmp table up texts (x ∷ xs) [] a b = refl
lists_cmp table up texts (x ∷ xs) (y ∷ ys) a b =
    λ t. ordering_then (texts_cmp table x y up texts a.0 b.0 t) (lists_cmp table up texts xs ys a.1 b.1 t)

pub protos_rise : ProtosRise
protos_rise types rows up texts valid sorted =
    rows_rise key_cmp-total key_cmp-same (slice_cmp nat_cmp) (λ row. map (text_at types) row) (AllByRecursion (λ i. i < length types)) (lists_cmp types up texts) rows valid sorted

module _ (strings types : List Key) (s_up : Rising strings) (s_texts : AreTexts strings) (t_up : Rising types) (t_texts : AreTexts types) where
  pub field_row_cmp : (r s : ℕ × ℕ × ℕ) → (r.0 < length types) × (r.1 < length strings) × (r.2 < length types) → (s.0 < length types) × (s.1 < length strings) × (s.2 < length types) → key_cmp (field_of_row strings types r) (field_of_row strings types s) ≡ row_cmp r s
  field_row_cmp r s a b =
      λ t. ordering_then (texts_cmp types r.0 s.0 t_up t_texts a.0 b.0 t) (ordering_then (texts_cmp strings r.1 s.1 s_up s_texts a.1 b.1 t) ((sym (ordering_then-equal (units_cmp (text_at types r.2) (text_at types s.2))) ∙ texts_cmp types r.2 s.2 t_up t_texts a.2 b.2) t))

  pub method_row_cmp : (protos : List Key) → Rising protos → (r s : ℕ × ℕ × ℕ) → (r.0 < length types) × (r.1 < length strings) × (r.2 < length protos) → (s.0 < length types) × (s.1 < length strings) × (s.2 < length protos) → key_cmp (method_of_row strings types protos r) (method_of_row strings types protos s) ≡ row_cmp r s
  method_row_cmp protos p_up r s a b =
      λ t. ordering_then (texts_cmp types r.0 s.0 t_up t_texts a.0 b.0 t) (ordering_then (texts_cmp strings r.1 s.1 s_up s_texts a.1 b.1 t) (places_cmp key_cmp-total key_cmp-same protos r.2 s.2 [] p_up a.2 b.2 t))

pub fields_rise : FieldsRise
fields_rise strings types rows s_up s_texts t_up t_texts valid sorted =
    rows_rise key_cmp-total key_cmp-same row_cmp (field_of_row strings types) _ (field_row_cmp strings types s_up s_texts t_up t_texts) rows valid sorted

pub methods_rise : MethodsRise
methods_rise strings types protos rows s_up s_texts t_up t_texts p_up valid sorted =
    rows_rise key_cmp-total key_cmp-same row_cmp (method_of_row strings types protos) _ (method_row_cmp strings types s_up s_texts t_up t_texts protos p_up) rows valid sorted

pub sets_are_their_members : SetsAreTheirMembers
sets_are_their_members ks js f g =
    same_rising key_cmp-total key_cmp-same (add_all [] ks) (add_all [] js) (rising-add_all [] ks rising-none) (rising-add_all [] js rising-none)
    (λ q. is_member-add_all [] ks q ∙ both_ways (is_member ks q) (is_member js q) (f.each q) (g.each q) ∙ sym (is_member-add_all [] js q))
