-- Type lists by the numbers of kept rows.
use Rattle.std.proofs.Common.{◌≡◌, ℕ, zero, suc, ◌+◌, ◌^◌, ◌<◌, ◌≤◌, Bool, true, false, List, [], ◌∷◌, ◌++◌, length, map, take, get_or, refl, sym, ap, subst, ◌∙◌, arith, slice_get, Some, option_map, append_assoc, append-nil}
use Rattle.std.specs.Prelude.{MatchBool, ◌==◌}
use Rattle.std.specs.List.{AllByRecursion, AllZip}
use Rattle.std.proofs.lemmas.List.{take_more, take_all, length-map}
use Rattle.std.proofs.lemmas.Option.{slice_get_within, get_or_from_slice_get, slice_get-map}
use Rattle.dex_base.specs.Fields.{u16_bytes, u32_bytes}
use Rattle.dex_base.specs.Words.{halves_bytes, words_bytes}
use Rattle.dex_container.specs.Frame.{IsFramed}
use Rattle.dex_container.specs.Layout.{size_of}
use Rattle.dex_container.specs.Where.{At, AtOrNone}
use Rattle.program_types.specs.Content.{Units, Class, Program, OfDesc}
use Rattle.program_types.specs.Key.{text_key, proto_key}
use Rattle.tables_names.specs.Closure.{Five, NameRanks}
use Rattle.tables_names.specs.inner.Closure.{Holds}
use Rattle.tables_names.specs.inner.Indices.{AreIndices}
use Rattle.tables_names.specs.Needed.{needed}
use Rattle.tables_names.specs.Rank.{IsAt}
use Rattle.tables_names.proofs.IndexLemmas.{closed_have_rows}
use Rattle.tables_names.proofs.PlaceLemmas.{member_at}
use Rattle.file_renumber.specs.inner.Marked.{Columns}
use Rattle.file_renumber.specs.inner.Numbers.{IsKept, Carries}
use Rattle.file_renumber.proofs.RankLemmas.{kept_protos_are_ranks, kept_rows_are_held, totals_are_lengths}
use Rattle.tables_rows.specs.RowFields.{proto_parameters}
use Rattle.tables_rows.specs.Stands.{NameStands, TypeStands, TypesAt, SpellsIndexes}
use Rattle.file_layout.proofs.SectionLaws.{not_none}
use Rattle.file_layout.specs.inner.Sections.{is_empty_list}
use Rattle.file_limits.specs.Wide.{params_of, wide_list}
use Rattle.file_limits.specs.inner.Wide.{list_values}
use Rattle.file_needed.proofs.ClassNames.{interfaces_named}
use Rattle.file_put.specs.inner.Lists.{AddsIndices, SpellsRanks}
use Rattle.file_put.proofs.RankedLists.{list_some, halves_push}
use Rattle.file_strip.specs.inner.Keeping.{Keeps}
use Rattle.file_strip.specs.inner.Lists.{AreCarriedLists, AreFirstLists, AreRanked, IsCarriedList}
use Rattle.file_strip.specs.inner.Moved.{IsItem}
use Rattle.file_strip.specs.inner.Words.{AreClassWords}
use Rattle.file_strip.proofs.KeepLaws.{number_is, numbers_long, next_kept, next_not_kept, first_number, few_types, all_carried, class_holds}
use Rattle.file_classes.proofs.EntryLaws.{entry_at}
use Rattle.file_renumber.proofs.MarkLemmas.{all_held, types_stand, zip_at}
use Rattle.dex_base.proofs.ListFacts.{zip_length, zip_more, zip_append, all_append, some_one}

-- ---- the numbers of types

pub ranked_long : (numbers : Columns) (s : Five) (indexes : List ℕ) (ts : List Units) → AreRanked numbers s indexes ts → length indexes ≡ length ts
ranked_long numbers s indexes ts r = zip_length (λ i t. (number : ℕ) × (slice_get numbers.types i ≡ Some number) × IsAt s.types number (text_key t)) indexes ts r.each

pub ranked_at : (numbers : Columns) (s : Five) (indexes : List ℕ) (ts : List Units) (j : ℕ) → j < length indexes → AreRanked numbers s indexes ts
    → (number : ℕ) × (slice_get numbers.types (get_or indexes j 0) ≡ Some number) × IsAt s.types number (text_key (get_or ts j [])) × (number < 2 ^ 16) × (j < length ts)
ranked_at numbers s indexes ts j lt r =
    let h = zip_at (λ i t. (number : ℕ) × (slice_get numbers.types i ≡ Some number) × IsAt s.types number (text_key t)) indexes ts j 0 [] lt r.each in
    let w = slice_get_within s.types h.0 _ h.2 in
    let f = r.few in
    let n = ranked_long numbers s indexes ts r in
    (h.0, h.1, h.2, omega (arith, w, f), omega (arith, n, lt))

-- one type more
pub indices_next : (s : Five) (old mid new bytes : List ℕ) (k : ℕ) (ts : List Units) (j : ℕ) → j < length ts → AddsIndices s old mid (take j ts) → new ≡ mid ++ bytes → bytes ≡ u16_bytes k → k < 2 ^ 16 → IsAt s.types k (text_key (get_or ts j [])) → AddsIndices s old new (take (j + 1) ts)
indices_next s old mid new bytes k ts j lt a n b small at =
    subst (AddsIndices s old new) (sym (take_more ts j [] lt))
    (record {
      indexes = a.indexes ++ k ∷ [];
      whole = n ∙ ap (λ (l : List ℕ). l ++ bytes) a.whole ∙ append_assoc old (halves_bytes a.indexes) bytes ∙ ap (λ (l : List ℕ). old ++ l) (ap (λ (l : List ℕ). halves_bytes a.indexes ++ l) b ∙ sym (halves_push a.indexes k));
      small = all_append (λ (i : ℕ). i < 2 ^ 16) a.indexes (k ∷ []) a.small (small, tt);
      named = zip_more (λ (i : ℕ) (t : Units). IsAt s.types i (text_key t)) a.indexes (take j ts) k (get_or ts j []) a.named at;
    })

-- ---- a list

pub indexes_few : (b : List ℕ) (off : ℕ) (indexes : List ℕ) → AtOrNone SpellsIndexes b 0x1001 4 off indexes → length indexes < 2 ^ 32
indexes_few b off indexes at = by (off == 0) at
  where
    by : (z : Bool) → MatchBool z (indexes ≡ []) (At SpellsIndexes b 0x1001 4 off indexes) → length indexes < 2 ^ 32
    by true e = let n = ap length e in omega (arith, n)
    by false a = a.spelled.few

pub ranked_of : (b : List ℕ) (numbers : Columns) (s : Five) (off : ℕ) (indexes : List ℕ) (ts : List Units) → IsFramed b → AtOrNone SpellsIndexes b 0x1001 4 off indexes → IsCarriedList b numbers s off ts → AreRanked numbers s indexes ts
ranked_of b numbers s off indexes ts framed at c =
    record { few = c.few; each = by indexes ts (types_stand b off indexes ts framed at c.stands) c.carried }
  where
    by : (xs : List ℕ) (ys : List Units) → AllZip (TypeStands b) xs ys → AllByRecursion (λ t. Carries (NameStands b) (NameRanks s) numbers (OfDesc t)) ys
        → AllZip (λ i t. (number : ℕ) × (slice_get numbers.types i ≡ Some number) × IsAt s.types number (text_key t)) xs ys
    by [] [] z all = tt
    by [] (y ∷ ys) z all = absurd z
    by (x ∷ xs) [] z all = absurd z
    by (x ∷ xs) (y ∷ ys) z all = (all.0 x z.0, by xs ys z.1 all.1)

pub no_types : (numbers : Columns) (s : Five) (indexes : List ℕ) (ts : List Units) (bytes : List ℕ) → length indexes ≡ 0 → bytes ≡ [] → AreRanked numbers s indexes ts → IsItem is_empty_list (SpellsRanks s) bytes ts
no_types numbers s indexes [] bytes n e r = e
no_types numbers s indexes (t ∷ ts) bytes n e r = let l = ranked_long numbers s indexes (t ∷ ts) r in absurd (omega (arith, l, n))

-- a count, then as many ranks
pub list_spelled : (numbers : Columns) (s : Five) (indexes : List ℕ) (ts : List Units) (start count bytes : List ℕ) (n : ℕ) → start ≡ [] → count ≡ start ++ words_bytes (n ∷ []) → n ≡ length indexes → 0 < n → n < 2 ^ 32
    → AreRanked numbers s indexes ts → AddsIndices s count bytes ts → IsItem is_empty_list (SpellsRanks s) bytes ts
unfolding words_bytes
list_spelled numbers s indexes ts start count bytes n e c is some few r a =
    let long = ranked_long numbers s indexes ts r in
    let same = zip_length (λ (i : ℕ) (t : Units). IsAt s.types i (text_key t)) a.indexes ts a.named in
    let front : count ≡ u32_bytes n = c ∙ ap (λ (l : List ℕ). l ++ words_bytes (n ∷ [])) e ∙ append-nil (u32_bytes n) in
    let as_many : n ≡ length a.indexes = omega (arith, is, long, same) in
    let p : SpellsRanks s bytes ts = record {
      indexes = a.indexes;
      spelled = record { spelled = a.whole ∙ ap (λ (l : List ℕ). l ++ halves_bytes a.indexes) (front ∙ ap u32_bytes as_many); small = a.small; few = omega (arith, as_many, few) };
      named = a.named;
    } in
    rw (not_none ts (omega (arith, is, long, some))) (list_some s bytes ts p, p)

-- with bytes it takes seven at least, with those that align it
pub room_of_bytes : (s : Five) (bytes : List ℕ) (ts : List Units) → IsItem is_empty_list (SpellsRanks s) bytes ts → 0 < length bytes → 7 ≤ wide_list ts
room_of_bytes s bytes [] w some = let n = ap length w in absurd (omega (arith, n, some))
room_of_bytes s bytes (t ∷ ts) w some = omega arith

-- ---- the lists of a file

pub zip_of : {B : Type 0} (R : ℕ → B → Type 0) (xs : List ℕ) (ys : List B) → length xs ≡ length ys → ((i : ℕ) (y : B) → slice_get ys i ≡ Some y → R (get_or xs i 0) y) → AllZip R xs ys
zip_of R [] [] n each = tt
zip_of R [] (y ∷ ys) n each = absurd (omega (arith, n))
zip_of R (x ∷ xs) [] n each = absurd (omega (arith, n))
zip_of R (x ∷ xs) (y ∷ ys) n each = (each zero y refl, zip_of R xs ys (omega (arith, n)) (λ i z at. each (suc i) z at))

hold_all : (s : Five) (ts : List Units) (row : List ℕ) → AreIndices s.types row ts → AllByRecursion (λ t. Holds s (OfDesc t)) ts
hold_all s [] row a = tt
hold_all s (t ∷ ts) [] a = absurd a
hold_all s (t ∷ ts) (i ∷ row) a = (member_at s.types i (text_key t) a.0, hold_all s ts row a.1)

module _ (b : List ℕ) (numbers : Columns) (p : Program) (k : Keeps b numbers p) where
  pub protos_long : length numbers.protos ≡ size_of b 2 + 1
  protos_long = numbers_long (size_of b 2) k.marks.columns.protos numbers.protos k.marked.protos.shape k.numbered.protos

  pub first_lists : AreFirstLists b numbers p 0 []
  first_lists =
      let e = first_number (size_of b 2) k.marks.columns.protos numbers.protos k.marked.protos.shape k.numbered.protos in
      subst (λ (n : ℕ). AreCarriedLists b numbers (needed p) [] (take n (map params_of (needed p).protos))) (sym e) tt

  -- a prototype that isn't kept has no list
  pub list_not_kept : (i : ℕ) (offs : List ℕ) → i < size_of b 2 → ¬ IsKept numbers.protos i → AreFirstLists b numbers p i offs → AreFirstLists b numbers p (i + 1) offs
  list_not_kept i offs lt not z =
      let e = next_not_kept (size_of b 2) k.marks.columns.protos numbers.protos k.marked.protos.shape k.numbered.protos i lt not in
      subst (λ (n : ℕ). AreCarriedLists b numbers (needed p) offs (take n (map params_of (needed p).protos))) (sym e) z

  -- one that is has its own
  pub list_kept : (i : ℕ) (offs : List ℕ) → i < size_of b 2 → IsKept numbers.protos i → AreFirstLists b numbers p i offs → AreFirstLists b numbers p (i + 1) (offs ++ proto_parameters b i ∷ [])
  list_kept i offs lt kept z =
      let s = needed p in
      let row = k.tables.protos i lt in
      let q = row.name in
      let held = ((kept_rows_are_held b k.marks s numbers k.tables k.marked k.numbered).1 q i row.stands).0 kept in
      let rank = kept_protos_are_ranks b k.marks s numbers k.tables k.marked k.numbered q held i row.stands in
      let e = next_kept (size_of b 2) k.marks.columns.protos numbers.protos k.marked.protos.shape k.numbered.protos i lt kept in
      let is : get_or numbers.protos i 0 ≡ rank.0 = number_is numbers.protos i rank.0 rank.1 in
      let vs = map params_of s.protos in
      let there : slice_get vs rank.0 ≡ Some q.params = slice_get-map params_of s.protos rank.0 ∙ ap (option_map params_of) rank.2 in
      let within = slice_get_within vs rank.0 q.params there in
      let own : get_or vs rank.0 [] ≡ q.params = get_or_from_slice_get vs rank.0 q.params [] there in
      let indices = (closed_have_rows s k.marked.closed).protos rank.0 q rank.2 in
      let at : IsCarriedList b numbers s (proto_parameters b i) q.params = record { few = few_types b numbers p k; stands = row.stands.params; carried = all_carried b numbers p k q.params (hold_all s (proto_key q) indices.0 indices.1).1 } in
      let before : AreCarriedLists b numbers s offs (take rank.0 vs) = subst (λ (n : ℕ). AreCarriedLists b numbers s offs (take n vs)) is z in
      let more : AreCarriedLists b numbers s (offs ++ proto_parameters b i ∷ []) (take (rank.0 + 1) vs) =
      subst (AreCarriedLists b numbers s (offs ++ proto_parameters b i ∷ [])) (ap (λ (l : List Units). take rank.0 vs ++ l ∷ []) (sym own) ∙ sym (take_more vs rank.0 [] within))
      (zip_more (IsCarriedList b numbers s) offs (take rank.0 vs) (proto_parameters b i) q.params before at) in
      subst (λ (n : ℕ). AreCarriedLists b numbers s (offs ++ proto_parameters b i ∷ []) (take n vs)) (ap (λ (n : ℕ). n + 1) (sym is) ∙ sym e) more

  -- after the last row there are all
  pub parameter_lists : (i : ℕ) (offs : List ℕ) → i ≡ size_of b 2 → AreFirstLists b numbers p i offs → AreCarriedLists b numbers (needed p) offs (map params_of (needed p).protos)
  parameter_lists i offs is z =
      let vs = map params_of (needed p).protos in
      let e = (totals_are_lengths b k.marks (needed p) numbers k.tables k.marked k.numbered).protos in
      let n = length-map (needed p).protos params_of in
      let all : take (get_or numbers.protos i 0) vs ≡ vs = take_all (get_or numbers.protos i 0) vs (subst (λ (m : ℕ). length vs ≤ get_or numbers.protos m 0) (sym is) (omega (arith, e, n))) in
      subst (AreCarriedLists b numbers (needed p) offs) all z

  -- the interfaces of the classes
  pub interface_lists : (words : List ℕ) → AreClassWords b 3 words → AreCarriedLists b numbers (needed p) words (map (λ (c : Class). c.interfaces) p)
  interface_lists words w =
      let count = k.classes.count in
      let n = length-map p (λ (c : Class). c.interfaces) in
      let m = w.count in
      zip_of (IsCarriedList b numbers (needed p)) words (map (λ (c : Class). c.interfaces) p) (omega (arith, count, n, m))
      (λ i ts at.
      let lt : i < length p = (let w = slice_get_within (map (λ (c : Class). c.interfaces) p) i ts at in omega (arith, w, n)) in
      let c = entry_at p i lt in
      let same : c.0.interfaces ≡ ts = some_one _ _ _ (slice_get-map (λ (x : Class). x.interfaces) p i ∙ ap (option_map (λ (x : Class). x.interfaces)) c.1) at in
      let st = k.classes.each i c.0 c.1 in
      let all = interfaces_named (Holds (needed p)) c.0 (class_holds p i c.0 c.1) in
      subst (λ (xs : List Units). IsCarriedList b numbers (needed p) (get_or words i 0) xs) same
      (record {
        few = few_types b numbers p k;
        stands = subst (λ (o : ℕ). TypesAt b o c.0.interfaces) (sym (w.each i (omega (arith, lt, count)))) st.head.interfaces.types;
        carried = all_carried b numbers p k c.0.interfaces (all_held (needed p) c.0.interfaces all);
      }))

  pub all_lists : (offs words all : List ℕ) → all ≡ offs ++ words → AreCarriedLists b numbers (needed p) offs (map params_of (needed p).protos) → AreClassWords b 3 words → AreCarriedLists b numbers (needed p) all (list_values (needed p) p)
  all_lists offs words all e z w =
      subst (λ (xs : List ℕ). AreCarriedLists b numbers (needed p) xs (list_values (needed p) p)) (sym e)
      (zip_append (IsCarriedList b numbers (needed p)) offs words (map params_of (needed p).protos) (map (λ (c : Class). c.interfaces) p) z (interface_lists words w))
