-- The class data of classes, one by one.
use Rattle.std.proofs.Common.{◌≡◌, ℕ, suc, ◌+◌, ◌^◌, ◌<◌, ◌≤◌, Bool, true, false, List, [], ◌∷◌, ◌++◌, length, take, drop, get_or, refl, sym, ap, subst, ◌∙◌, arith, slice_get, Some, length-append}
use Rattle.std.specs.Prelude.{MatchBool}
use Rattle.std.proofs.lemmas.List.{take_more, take_all, drop_more, drop_all}
use Rattle.file_classes.specs.ClassData.{Entries, EntriesAt}
use Rattle.file_classes.specs.Classes.{MembersAre}
use Rattle.file_classes.specs.ClassRows.{class_word}
use Rattle.file_classes.proofs.EntryLaws.{entries_one}
use Rattle.file_layout.specs.Sections.{wide_all}
use Rattle.file_layout.specs.inner.Sections.{Adds, AddsSome, Laid, Laying}
use Rattle.file_layout.proofs.SectionLaws.{gap_one, length-padded, Laying-start}
use Rattle.file_layout.specs.Tiles.{gap, zeros}
use Rattle.file_limits.specs.Wide.{wide_data}
use Rattle.file_limits.specs.inner.Wide.{body_values}
use Rattle.file_put.specs.inner.Data.{PacksData, ClassWithCodes, has_no_members, method_count, with_code_places, wide_with_codes}
use Rattle.file_put.specs.inner.Placing.{items_with}
use Rattle.file_put.proofs.DataLengths.{data_length}
use Rattle.file_put.proofs.LayingLaws.{one_more}
use Rattle.file_put.proofs.SitedLaws.{length-sited, room_of_sited, rest_after}
use Rattle.file_put.proofs.SitedSteps.{sited_at, rest_next, rest_enough}
use Rattle.program_types.specs.Content.{Class, Program}
use Rattle.tables_names.specs.Closure.{Five, NameRanks}
use Rattle.tables_names.specs.Needed.{needed}
use Rattle.file_renumber.specs.inner.Marked.{Columns}
use Rattle.file_strip.specs.inner.Keeping.{Keeps}
use Rattle.file_strip.specs.inner.Members.{AreCarriedMembers}
use Rattle.file_strip.specs.inner.Sites.{AddsClassData, HasRoom}
use Rattle.file_strip.proofs.MemberLaws.{members_carried}
use Rattle.file_classes.proofs.EntryLaws.{entry_at}

-- The class data of the first n classes is laid after `old`, and these places of bodies are left.
abbrev pub ClassDataIsLaid : Program → List ℕ → List ℕ → List ℕ → ℕ → List ℕ → List ℕ → ℕ → Type 0
ClassDataIsLaid p codes old out n rest places items =
    Laying has_no_members (PacksData (NameRanks (needed p))) 1 wide_with_codes old out (take n (with_code_places p codes)) (drop n (with_code_places p codes)) (with_code_places p codes) places items
    × (rest ≡ rest_after p codes n)

-- ---- class by class

pub sited_start : (p : Program) (old codes : List ℕ) → ClassDataIsLaid p codes old old 0 codes [] 0
sited_start p old codes = (Laying-start has_no_members (PacksData (NameRanks (needed p))) 1 wide_with_codes old (with_code_places p codes), refl)

-- there is room for the next, and there are places for its methods
pub sited_room : (p : Program) (codes old out rest places : List ℕ) (i items : ℕ) → i < length p → length codes ≡ length (body_values p) → length old + wide_all wide_data p < 2 ^ 32 → ClassDataIsLaid p codes old out i rest places items → (c : Class) → slice_get p i ≡ Some c → HasRoom c rest out
sited_room p codes old out rest places i items lt e room s c at =
    let n = length-sited p codes in
    let none : ClassWithCodes = record { class = c; codes = [] } in
    let b = s.0.bound in
    let w = room_of_sited p codes in
    let d = ap (wide_all wide_with_codes) (drop_more (with_code_places p codes) i none (omega (arith, n, lt))) in
    let h = ap wide_with_codes (sited_at p codes i c none at) in
    (omega (arith, b, w, d, h, room), subst (λ (l : List ℕ). method_count c ≤ length l) (sym s.1) (rest_enough p codes i c at e))

pub sited_next : (p : Program) (codes old out new rest others places more : List ℕ) (i items place count : ℕ) → i < length p → 0 < length old → ClassDataIsLaid p codes old out i rest places items → ((c : Class) → slice_get p i ≡ Some c → AddsClassData (needed p) c rest others out new place)
    → more ≡ places ++ place ∷ [] → count ≡ items_with place items → ClassDataIsLaid p codes old new (i + 1) others more count
sited_next p codes old out new rest others places more i items place count lt front s a m n =
    let x = entry_at p i lt in
    let c = x.0 in
    let G = PacksData (NameRanks (needed p)) in
    let vs = with_code_places p codes in
    let v : ClassWithCodes = record { class = c; codes = take (method_count c) (rest_after p codes i) } in
    let len = length-sited p codes in
    let own : get_or vs i v ≡ v = sited_at p codes i c v x.1 in
    let adds : AddsSome has_no_members G 1 out new v place = subst (λ (l : List ℕ). AddsSome has_no_members G 1 out new (record { class = c; codes = take (method_count c) l }) place) s.1 (a c x.1).1 in
    let due : drop i vs ≡ v ∷ drop (i + 1) vs = drop_more vs i v (omega (arith, len, lt)) ∙ ap (λ (y : ClassWithCodes). y ∷ drop (i + 1) vs) own in
    let done : take i vs ++ v ∷ [] ≡ take (i + 1) vs = ap (λ (y : ClassWithCodes). take i vs ++ y ∷ []) (sym own) ∙ sym (take_more vs i v (omega (arith, len, lt))) in
    let before = subst (λ (ys : List ClassWithCodes). Laying has_no_members G 1 wide_with_codes old out (take i vs) ys vs places items) due s.0 in
    let after = one_more has_no_members G 1 wide_with_codes old out new (take i vs) (drop (i + 1) vs) vs v places more place items count before front adds (adds_bound (needed p) out new v place adds) m n in
    let next : suc i ≡ i + 1 = omega arith in (
      subst (λ (ys : List ClassWithCodes). Laying has_no_members G 1 wide_with_codes old new ys (drop (i + 1) vs) vs more count) done after,
      (a c x.1).0 ∙ ap (drop (method_count c)) s.1 ∙ sym (rest_next p codes i c x.1) ∙ ap (rest_after p codes) next,
    )
  where
    adds_bound : (s : Five) (old new : List ℕ) (v : ClassWithCodes) (place : ℕ) → AddsSome has_no_members (PacksData (NameRanks s)) 1 old new v place → length new ≤ length old + wide_with_codes v
    adds_bound s old new v place a =
        elim (has_no_members v) as (λ (t : Bool). MatchBool t ((place ≡ 0) × (new ≡ old)) (Adds (PacksData (NameRanks s)) 1 old new v place) → length new ≤ length old + wide_with_codes v) [
          | true ↦ λ a. let n = ap length a.1 in omega (arith, n)
          | false ↦ λ a.
              let n = ap length a.whole ∙ length-append (old ++ zeros (gap 1 (length old))) a.bytes in
              let l = length-padded old (gap 1 (length old)) in
              let g = gap_one (length old) in
              let m = (data_length s a.bytes v a.spelled).1 in
              omega (arith, n, l, g, m)
        ] a

pub sited_end : (p : Program) (codes old out rest places : List ℕ) (i items : ℕ) → length p ≤ i → ClassDataIsLaid p codes old out i rest places items → Laid has_no_members (PacksData (NameRanks (needed p))) 1 wide_with_codes old out (with_code_places p codes) places items
sited_end p codes old out rest places i items le s =
    let n = length-sited p codes in
    let vs = with_code_places p codes in
    subst (λ (done : List ClassWithCodes). Laying has_no_members (PacksData (NameRanks (needed p))) 1 wide_with_codes old out done [] vs places items) (take_all i vs (omega (arith, n, le)))
    (subst (λ (rest : List ClassWithCodes). Laying has_no_members (PacksData (NameRanks (needed p))) 1 wide_with_codes old out (take i vs) rest vs places items) (drop_all i vs (omega (arith, n, le))) s.0)

-- the entries that stand are those of the class
pub entries_carried : (b : List ℕ) (numbers : Columns) (p : Program) → Keeps b numbers p → (i : ℕ) (c : Class) (e : Entries) → slice_get p i ≡ Some c → EntriesAt b (class_word b i 6) e → AreCarriedMembers numbers (needed p) e c
entries_carried b numbers p k i c e at stands =
    let st = k.classes.each i c at in
    let same : st.entries ≡ e = entries_one b k.marked.framed (class_word b i 6) st.entries e st.head.class_data stands in
    members_carried b numbers p k i c e at (subst (λ (x : Entries). MembersAre b x c) same st.head.members)
