-- Members by the numbers of kept rows, entry by entry.
use Rattle.std.proofs.Common.{◌≡◌, ℕ, zero, suc, ◌+◌, ◌-◌, ◌^◌, ◌<◌, ◌≤◌, List, [], ◌∷◌, ◌++◌, length, map, take, get_or, refl, sym, ap, subst, ◌∙◌, arith, slice_get, Some, option_map, append_assoc, append-nil}
use Rattle.std.specs.Prelude.{sum}
use Rattle.std.specs.List.{AllByRecursion, flat_map}
use Rattle.std.proofs.lemmas.List.{take_more, take_all, length-map, map-append}
use Rattle.std.proofs.lemmas.Option.{slice_get_within, slice_get-map, get_or_from_slice_get}
use Rattle.dex_base.specs.Grammar.{Appends, Each}
use Rattle.dex_base.specs.Leb128.{Spells, Shortest}
use Rattle.dex_base.proofs.GrammarLaws.{Each-push}
use Rattle.dex_container.specs.Layout.{size_of}
use Rattle.file_classes.specs.ClassData.{Entries, FieldEntry, MethodEntry, SpellsFieldEntry, SpellsMethodEntry, EntriesAre, steps, index_of}
use Rattle.file_classes.specs.Classes.{IsField, IsMethod, MembersAre}
use Rattle.file_needed.proofs.ClassNames.{statics_named, instances_named, directs_kept, virtuals_kept}
use Rattle.file_put.specs.Data.{code_offs}
use Rattle.file_put.specs.inner.Data.{FieldRanks, MethodRanks}
use Rattle.file_put.specs.inner.Growing.{AddsFields, AddsMethods}
use Rattle.file_put.proofs.RunLaws.{total, total_push, no_run, run_push}
use Rattle.program_types.specs.Content.{Class, Descriptor, Member, Method, Name, Program}
use Rattle.program_types.specs.Mentions.{field_of_class, names_of_method}
use Rattle.tables_names.specs.Closure.{Five, NameRanks, method_of_class}
use Rattle.tables_names.specs.inner.Closure.{Holds}
use Rattle.tables_names.specs.Needed.{needed}
use Rattle.file_renumber.specs.inner.Marked.{Columns, IsColumn}
use Rattle.file_renumber.proofs.ColumnLemmas.{before_next}
use Rattle.file_renumber.proofs.RankLemmas.{kept_rows_are_held}
use Rattle.file_strip.specs.inner.Keeping.{Keeps}
use Rattle.file_strip.specs.inner.Members.{AreCarriedMembers, IsCarriedRun}
use Rattle.file_strip.proofs.KeepLaws.{number_is, numbers_long, numbers_rise, carried, class_holds}
use Rattle.file_classes.proofs.EntryLaws.{entry_at}
use Rattle.dex_base.proofs.ListFacts.{all_get, some_one}
use Rattle.file_renumber.proofs.ListLemmas.{all-part}
use Rattle.file_renumber.specs.inner.Numbers.{Counts, IsKept}

-- ---- lists by index

step_at : {R : Type 0} (es : List (ℕ × R)) (i : ℕ) (e : ℕ × R) → slice_get es i ≡ Some e → get_or (steps es) i 0 ≡ e.0
step_at {R} es i e at = get_or_from_slice_get (steps es) i e.0 0 (slice_get-map (λ (x : ℕ × R). x.0) es i ∙ ap (option_map (λ (x : ℕ × R). x.0)) at)

-- the index of an entry is that of the entry before and a step more
pub index_next : {R : Type 0} (es : List (ℕ × R)) (i : ℕ) (e : ℕ × R) → slice_get es i ≡ Some e → index_of (steps es) i ≡ sum (take i (steps es)) + e.0
index_next {R} es i e at =
    let n = length-map es (λ (x : ℕ × R). x.0) in
    let w = slice_get_within es i e at in
    before_next (steps es) i (omega (arith, n, w)) ∙ ap (λ (k : ℕ). sum (take i (steps es)) + k) (step_at es i e at)

no_total : {R : Type 0} (xs : List (ℕ × R)) → length xs ≡ 0 → total xs ≡ 0
no_total [] h = refl
no_total (x ∷ xs) h = absurd (omega (arith, h))

-- ---- a run while it is written

module _ {R V : Type 0} (column : List ℕ) (M : ℕ → ℕ × R → V → Type 0) (G : List ℕ → ℕ × R → Type 0) (es : List (ℕ × R)) (vs : List V) where
  -- Of the first i entries these are written; the last of them has this index, and its row this number, 0 for none.
  pub record RunTo (old out : List ℕ) (i index last : ℕ) : Type 0 where
    pub outs : List (ℕ × R)
    pub bytes : List ℕ
    pub whole : out ≡ old ++ bytes
    pub spelled : Each G bytes outs
    pub index_is : index ≡ sum (take i (steps es))
    pub run : EntriesAre M outs (take i vs)
    pub sum_is : last ≡ total outs
    pub after : (k : ℕ) → i ≡ k + 1 → last ≡ get_or column (index_of (steps es) k) 0

  abbrev pub run_start : (old : List ℕ) → RunTo old old 0 0 0
  run_start old = record { outs = []; bytes = []; whole = sym (append-nil old); spelled = refl; index_is = refl; run = no_run M; sum_is = refl; after = λ k e. absurd (omega (arith, e)) }

  pub number_above : (old out : List ℕ) (i index last number : ℕ) → IsCarriedRun column M es vs → RunTo old out i index last → i < length es → number ≡ get_or column (index_of (steps es) i) 0 → (0 < length (take i vs) → last < number) × (last ≤ number)
  number_above old out zero index last number c s lt n =
      let e = s.run.count in
      let z = no_total s.outs (omega (arith, e)) in
      let t = s.sum_is in
      (λ h. absurd (omega (arith, h)), omega (arith, t, z))
  number_above old out (suc i) index last number c s lt n =
      let one : suc i ≡ i + 1 = omega arith in
      let b = s.after i one in
      let r = c.rises i (omega (arith, lt)) in
      let m : number ≡ get_or column (index_of (steps es) (i + 1)) 0 = n ∙ ap (λ (k : ℕ). get_or column (index_of (steps es) k) 0) one in
      (λ h. omega (arith, b, r, m), omega (arith, b, r, m))

module _ {R V : Type 0} {column : List ℕ} {M : ℕ → ℕ × R → V → Type 0} {G : List ℕ → ℕ × R → Type 0} {es : List (ℕ × R)} {vs : List V} {old out : List ℕ} {i index last : ℕ} (c : IsCarriedRun column M es vs) (s : RunTo column M G es vs old out i index last) where
  pub run_end : length es ≤ i → EntriesAre M s.outs vs
  run_end le =
      let n = c.count in
      subst (λ (us : List V). EntriesAre M s.outs us) (take_all i vs (omega (arith, n, le))) s.run

  -- the next entry
  module _ (lt : i < length es) (e : ℕ × R) (at : slice_get es i ≡ Some e) where
    pub here : index_of (steps es) i ≡ index + e.0
    here = index_next es i e at ∙ ap (λ (k : ℕ). k + e.0) (sym s.index_is)

    -- its value, and the number of its row
    pub next_row : (v : V) × (number : ℕ) × (slice_get vs i ≡ Some v) × (slice_get column (index + e.0) ≡ Some number) × M number e v
    next_row =
        let n = c.count in
        let v = entry_at vs i (omega (arith, n, lt)) in
        let r = c.each i e v.0 at v.1 in
        (v.0, r.0, v.1, subst (λ (k : ℕ). slice_get column k ≡ Some r.0) here r.1, r.2)

    pub run_index : length column ≤ 2 ^ 32 → (index + e.0 < length column) × (index + e.0 < 2 ^ 32)
    run_index few = let w = slice_get_within column (index + e.0) next_row.1 next_row.3 in (w, omega (arith, w, few))

    module _ (number : ℕ) (is : slice_get column (index + e.0) ≡ Some number) where
      pub own : number ≡ get_or column (index_of (steps es) i) 0
      own = sym (number_is column (index + e.0) number is) ∙ ap (λ (k : ℕ). get_or column k 0) (sym here)

      pub run_low : last ≤ number
      run_low = (number_above column M G es vs old out i index last number c s lt own).1

      -- it is written with this rest
      abbrev pub run_more : (new : List ℕ) (rest : R) → ((step : ℕ) (v : V) → M number e v → M number (step, rest) v) → Appends G out new (number - last, rest) → RunTo column M G es vs old new (i + 1) (index + e.0) number
      run_more new rest moves a =
          let x = next_row in
          let l = number_above column M G es vs old out i index last number c s lt own in
          let low = l.1 in
          let t = s.sum_is in
          let p = total_push s.outs (number - last, rest) in
          let w = slice_get_within vs i x.0 x.2 in
          let m = subst (λ (k : ℕ). M k e x.0) (some_one (slice_get column (index + e.0)) x.1 number x.3 is) x.4 in
          let done : take i vs ++ x.0 ∷ [] ≡ take (i + 1) vs = ap (λ (v : V). take i vs ++ v ∷ []) (sym (get_or_from_slice_get vs i x.0 x.0 x.2)) ∙ sym (take_more vs i x.0 w) in
          record {
            outs = s.outs ++ (number - last, rest) ∷ [];
            bytes = s.bytes ++ a.bytes;
            whole = a.joined ∙ ap (λ (l : List ℕ). l ++ a.bytes) s.whole ∙ append_assoc old s.bytes a.bytes;
            spelled = Each-push G s.bytes a.bytes s.outs (number - last, rest) s.spelled a.spelled;
            index_is = sym here;
            run = subst (λ (us : List V). EntriesAre M (s.outs ++ (number - last, rest) ∷ []) us) done
                (run_push M s.outs (take i vs) (number - last, rest) x.0 number s.run (omega (arith, t, low)) (moves (number - last) x.0 m) (λ h. let q = l.0 h in omega (arith, q)));
            sum_is = omega (arith, p, t, low);
            after = λ k f. let same : i ≡ k = omega (arith, f) in subst (λ (j : ℕ). number ≡ get_or column (index_of (steps es) j) 0) same own;
          }

-- ---- fields

abbrev pub FieldsTo : List ℕ → Five → Descriptor → List FieldEntry → List Member → List ℕ → List ℕ → ℕ → ℕ → ℕ → Type 0
FieldsTo column s class es ms old out i index last = RunTo column (FieldRanks (NameRanks s) class) (SpellsFieldEntry (Shortest Spells)) es ms old out i index last

pub fields_end : (column : List ℕ) (s : Five) (class : Descriptor) (es : List FieldEntry) (ms : List Member) → IsCarriedRun column (FieldRanks (NameRanks s) class) es ms → (old new : List ℕ) (i index last : ℕ) → length es ≤ i → FieldsTo column s class es ms old new i index last → AddsFields (NameRanks s) class old new ms
fields_end column s class es ms c old new i index last le f = record { bytes = f.bytes; entries = f.outs; whole = f.whole; spelled = f.spelled; run = run_end c f le }

-- ---- methods

module _ (column : List ℕ) (s : Five) (class : Descriptor) (es : List MethodEntry) (ms : List Method) (codes : List ℕ) where
  pub record MethodsTo (old out : List ℕ) (i index last : ℕ) : Type 0 where
    pub to : RunTo column (MethodRanks (NameRanks s) class) (SpellsMethodEntry (Shortest Spells)) es ms old out i index last
    pub places : code_offs to.outs ≡ take i codes

  pub methods_start : (old : List ℕ) → MethodsTo old old 0 0 0
  methods_start old = record { to = run_start column (MethodRanks (NameRanks s) class) (SpellsMethodEntry (Shortest Spells)) es ms old; places = refl }

  module _ (c : IsCarriedRun column (MethodRanks (NameRanks s) class) es ms) where
    pub method_more : (old mid new : List ℕ) (i index last : ℕ) (e : MethodEntry) (number code : ℕ) → MethodsTo old mid i index last → i < length es → i < length codes → slice_get es i ≡ Some e → slice_get column (index + e.0) ≡ Some number → code ≡ get_or codes i 0
        → Appends (SpellsMethodEntry (Shortest Spells)) mid new (number - last, (e.1.0, code)) → MethodsTo old new (i + 1) (index + e.0) number
    method_more old mid new i index last e number code f lt few at n own a = record {
      to = run_more c f.to lt e at number n new (e.1.0, code) (λ step v m. record { method = m.method; flags = m.flags }) a;
      places = map-append (λ (y : MethodEntry). y.1.1) f.to.outs ((number - last, (e.1.0, code)) ∷ []) ∙ ap (λ (l : List ℕ). l ++ code ∷ []) f.places ∙ ap (λ (k : ℕ). take i codes ++ k ∷ []) own ∙ sym (take_more codes i 0 few);
    }

    pub methods_end : (old new : List ℕ) (i index last : ℕ) → length es ≤ i → length codes ≡ length es → MethodsTo old new i index last → AddsMethods (NameRanks s) class codes old new ms
    methods_end old new i index last le m f = record {
      bytes = f.to.bytes;
      entries = f.to.outs;
      whole = f.to.whole;
      spelled = f.to.spelled;
      run = run_end c f.to le;
      places = f.places ∙ take_all i codes (omega (arith, m, le));
    }

-- ---- the members of a class of the file

all_of : {A : Type 0} (P : Name → Type 0) (f : A → Name) (xs : List A) (i : ℕ) (x : A) → slice_get xs i ≡ Some x → AllByRecursion P (map f xs) → P (f x)
all_of P f xs i x at all = all_get P (map f xs) i (f x) all (slice_get-map f xs i ∙ ap (option_map f) at)

flat_at : (P : Name → Type 0) (class : Descriptor) (ms : List Method) (i : ℕ) (m : Method) → slice_get ms i ≡ Some m → AllByRecursion P (flat_map (names_of_method class) ms) → P (method_of_class class m)
flat_at P class ms i m at all = subst (λ (x : Method). P (method_of_class class x)) (get_or_from_slice_get ms i m m at) (all-part P (names_of_method class) ms i m all (slice_get_within ms i m at)).0

index_less : {R : Type 0} (es : List (ℕ × R)) (i : ℕ) → i + 1 < length es → 0 < get_or (steps es) (i + 1) 0 → index_of (steps es) i < index_of (steps es) (i + 1)
index_less {R} es i lt some =
    let n = length-map es (λ (x : ℕ × R). x.0) in
    let b = before_next (steps es) (i + 1) (omega (arith, n, lt)) in
    omega (arith, b, some)

-- a run of entries whose rows are kept
carried_run : {R V : Type 0} (E M : ℕ → ℕ × R → V → Type 0) (n : ℕ) (column numbers : List ℕ) → IsColumn n column → Counts column numbers → (es : List (ℕ × R)) (vs : List V) → EntriesAre E es vs
    → ((j row : ℕ) (e : ℕ × R) (v : V) → slice_get vs j ≡ Some v → E row e v → (row < n) × IsKept numbers row × ((number : ℕ) × (slice_get numbers row ≡ Some number) × M number e v)) → IsCarriedRun numbers M es vs
carried_run E M n column numbers shape counts es vs run rows = record {
  count = run.count;
  each = λ j e v at_e at_v. (rows j (index_of (steps es) j) e v at_v (run.each j e v at_e at_v)).2;
  rises = λ j lt.
      let count = run.count in
      let e = entry_at es j (omega (arith, lt)) in
      let v = entry_at vs j (omega (arith, lt, count)) in
      let f = entry_at es (j + 1) lt in
      let w = entry_at vs (j + 1) (omega (arith, lt, count)) in
      let inside = (rows (j + 1) (index_of (steps es) (j + 1)) f.0 w.0 w.1 (run.each (j + 1) f.0 w.0 f.1 w.1)).0 in
      numbers_rise n column numbers shape counts (index_of (steps es) j) (index_of (steps es) (j + 1))
      (index_less es j lt (run.rises (j + 1) (omega arith) lt)) (omega (arith, inside)) (rows j (index_of (steps es) j) e.0 v.0 v.1 (run.each j e.0 v.0 e.1 v.1)).1;
}

module _ (b : List ℕ) (numbers : Columns) (p : Program) (k : Keeps b numbers p) where
  fields_carried : (class : Descriptor) (es : List FieldEntry) (ms : List Member) → EntriesAre (IsField b class) es ms → AllByRecursion (Holds (needed p)) (map (field_of_class class) ms) → IsCarriedRun numbers.fields (FieldRanks (NameRanks (needed p)) class) es ms
  fields_carried class es ms run all =
      carried_run (IsField b class) (FieldRanks (NameRanks (needed p)) class) (size_of b 3) k.marks.columns.fields numbers.fields k.marked.fields.shape k.numbered.fields es ms run (λ j row e m at st.
      let held = all_of (Holds (needed p)) (field_of_class class) ms j m at all in
      let kept = ((kept_rows_are_held b k.marks (needed p) numbers k.tables k.marked k.numbered).0 (field_of_class class m) row st.field).1 held in
      let r = carried b numbers p k (field_of_class class m) held row st.field in
      (st.field.row, kept, (r.0, r.1, record { field = r.2; flags = st.flags })))

  methods_carried : (class : Descriptor) (es : List MethodEntry) (ms : List Method) → EntriesAre (IsMethod b class) es ms → AllByRecursion (Holds (needed p)) (flat_map (names_of_method class) ms) → IsCarriedRun numbers.methods (MethodRanks (NameRanks (needed p)) class) es ms
  methods_carried class es ms run all =
      carried_run (IsMethod b class) (MethodRanks (NameRanks (needed p)) class) (size_of b 4) k.marks.columns.methods numbers.methods k.marked.methods.shape k.numbered.methods es ms run (λ j row e m at st.
      let held = flat_at (Holds (needed p)) class ms j m at all in
      let kept = ((kept_rows_are_held b k.marks (needed p) numbers k.tables k.marked k.numbered).0 (method_of_class class m) row st.method).1 held in
      let r = carried b numbers p k (method_of_class class m) held row st.method in
      (st.method.row, kept, (r.0, r.1, record { method = r.2; flags = st.flags })))

  pub members_carried : (i : ℕ) (c : Class) (e : Entries) → slice_get p i ≡ Some c → MembersAre b e c → AreCarriedMembers numbers (needed p) e c
  members_carried i c e at m =
      let h = class_holds p i c at in
      let f = k.marked.fields.shape.few in
      let g = k.marked.methods.shape.few in
      let l = numbers_long (size_of b 3) k.marks.columns.fields numbers.fields k.marked.fields.shape k.numbered.fields in
      let n = numbers_long (size_of b 4) k.marks.columns.methods numbers.methods k.marked.methods.shape k.numbered.methods in
      record {
        few_fields = omega (arith, f, l);
        few_methods = omega (arith, g, n);
        statics = fields_carried c.ty e.statics c.statics m.statics (statics_named (Holds (needed p)) c h);
        instances = fields_carried c.ty e.instances c.instances m.instances (instances_named (Holds (needed p)) c h);
        directs = methods_carried c.ty e.directs c.directs m.directs (directs_kept (Holds (needed p)) c h);
        virtuals = methods_carried c.ty e.virtuals c.virtuals m.virtuals (virtuals_kept (Holds (needed p)) c h);
      }
