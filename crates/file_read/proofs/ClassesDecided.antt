-- A class row holds, or it breaks a rule.
use Rattle.std.proofs.Common.{◌≡◌, ◌≢◌, ℕ, zero, suc, ◌+◌, ◌<◌, ◌≤◌, ◌⊎◌, inl, inr, List, [], ◌∷◌, ◌++◌, length, Option, Some, None, refl, ap, ◌∙◌, subst, arith, slice_get}
use Rattle.std.specs.Prelude.{slice_index, IfSome}
use Rattle.std.proofs.lemmas.Bool.{cases_lt, cases_eq}
use Rattle.std.proofs.lemmas.List.{length-map}
use Rattle.dex_base.specs.declared.fault.Fault.{Fault}
use Rattle.dex_base.specs.Descriptor.{IsClass}
use Rattle.dex_container.specs.Frame.{IsFramed}
use Rattle.dex_container.specs.Layout.{size_of}
use Rattle.program_types.specs.Content.{Units, Method}
use Rattle.program_types.specs.Content as content
use Rattle.tables_rows.specs.Sorted.{TablesHold}
use Rattle.tables_rows.specs.Stands.{StringStands, TypeStands, MethodStands}
use Rattle.dex_base.specs.Deciding.{Decided}
use Rattle.dex_base.proofs.Deciding.{decide_like, decide_both, decide_le, decide_eq, decide_list, decide_all, decide_below}
use Rattle.dex_base.proofs.NamesDecided.{decide_class}
use Rattle.tables_rows.proofs.RowsDecided.{decide_list_at, decide_types, decide_not}
use Rattle.tables_rows.specs.inner.TableFaults.{IsFirstRow}
use Rattle.tables_rows.proofs.RowsBreak.{HoldsOrBreaks, first_break}
use Rattle.file_classes.specs.ClassRows.{class_word, no_index, IndexOrNone, InterfaceIndexes, NoneDefines, InOrder}
use Rattle.file_classes.specs.ClassData.{FieldEntry, MethodEntry, Entries, EntriesAt, steps, index_of, FirstEntriesAre, EntriesAre}
use Rattle.file_classes.specs.Classes.{NoTypeTwice, InterfacesAt, RowIs, IsField, IsMethod}
use Rattle.file_classes.specs.ClassFaults.{FieldOwner, MethodOwner, EntryBreaks, EntriesBreak, FieldEntriesBreak, MethodEntriesBreak, MembersBreak, ClassRowBreaks, ClassRowHolds}
use Rattle.file_classes.specs.inner.ClassFaults.{ClassRowsHold}
use Rattle.file_classes.proofs.EntryFaults.{run_holds, field_owned, method_owned, field_owner_one, method_owner_one, fields_hold, methods_hold}
use Rattle.file_classes.proofs.EntryLaws.{entry_at, runs_none, runs_more}
use Rattle.file_classes.proofs.HeadLaws.{to_each, no_classes, not_distinct}
use Rattle.file_classes.proofs.MemberLaws.{field_stands}
use Rattle.file_classes.proofs.RowFaults.{class_index, class_kind, interface_list, class_order, class_data, member}
use Rattle.code_read.proofs.Deciding.{decide-all-below, decide-implied}
use Rattle.file_read.proofs.DataDecided.{decide_entries_at}

-- ---- interfaces

not_there : (t u : Units) (us : List Units) → (u ≡ t → ⊥) → (((k : ℕ) × (slice_get us k ≡ Some t)) → ⊥) → (k : ℕ) → slice_get (u ∷ us) k ≡ Some t → ⊥
not_there t u us nay none zero at = let e : u ≡ t = cc in nay e
not_there t u us nay none (suc k) at = none (k, at)

decide_there : (t : Units) (ts : List Units) → Decided ((k : ℕ) × (slice_get ts k ≡ Some t))
decide_there t [] = inr (λ x. let at = x.1 in absurd cc)
decide_there t (u ∷ us) = elim (decide_list u t) [
  | inl e ↦ inl (0, ap (λ (x : Units). Some x) e)
  | inr nay ↦ elim (decide_there t us) [
    | inl x ↦ inl (suc x.0, x.1)
    | inr none ↦ inr (λ x. not_there t u us nay none x.0 x.1)
  ]
]

distinct_more : (t : Units) (ts : List Units) → (((k : ℕ) × (slice_get ts k ≡ Some t)) → ⊥) → NoTypeTwice ts → NoTypeTwice (t ∷ ts)
distinct_more t ts none d zero zero u p q = refl
distinct_more t ts none d zero (suc k) u p q = let e : u ≡ t = cc in absurd (none (k, q ∙ ap (λ (x : Units). Some x) e))
distinct_more t ts none d (suc j) zero u p q = let e : u ≡ t = cc in absurd (none (j, p ∙ ap (λ (x : Units). Some x) e))
distinct_more t ts none d (suc j) (suc k) u p q = ap suc (d j k u p q)

decide_distinct : (ts : List Units) → Decided (NoTypeTwice ts)
decide_distinct [] = inl (λ j k t p q. absurd cc)
decide_distinct (t ∷ ts) = elim (decide_there t ts) [
  | inl x ↦ inr (λ d. let e = d 0 (suc x.0) t refl x.1 in omega (arith, e))
  | inr none ↦ elim (decide_distinct ts) [
    | inl d ↦ inl (distinct_more t ts none d)
    | inr nay ↦ inr (λ d. nay (λ j k u p q. let e = d (suc j) (suc k) u p q in omega (arith, e)))
  ]
]

pub decide_interfaces : (b : List ℕ) → IsFramed b → TablesHold b → (place : ℕ) → Decided ((ts : List Units) × InterfacesAt b place ts)
decide_interfaces b framed tables place = elim (decide_types b framed tables.types place) [
  | inl x ↦ elim (decide_all IsClass decide_class x.0) [
    | inl all ↦ elim (decide_distinct x.0) [
      | inl d ↦ inl (x.0, record { types = x.1; classes = all; distinct = d })
      | inr nay ↦ inr (λ z. not_distinct b framed place x.0 x.1 nay z.0 z.1)
    ]
    | inr nay ↦ inr (λ z. no_classes b framed place x.0 x.1 nay z.0 z.1)
  ]
  | inr none ↦ inr (λ z. none (z.0, z.1.types))
]

-- ---- order

module _ (b : List ℕ) where
  decide_undefined : (from to ty : ℕ) → Decided (NoneDefines b from to ty)
  decide_undefined from to ty = decide_like
      (λ none j low high e. none (j, high, (low, e)))
      (λ (all : NoneDefines b from to ty) x. all x.0 x.2.0 x.1 x.2.1)
      (decide_not (decide_below (λ j. (from ≤ j) × (class_word b j 0 ≡ ty)) (λ j. decide_both (decide_le from j) (decide_eq (class_word b j 0) ty)) to))

  abbrev AllBefore : ℕ → List ℕ → Type 0
  AllBefore i xs = (k : ℕ) → k < length xs → NoneDefines b i (size_of b 5) (slice_index xs k)

  decide_before : IsFramed b → (i : ℕ) → Decided ((indexes : List ℕ) → InterfaceIndexes b i indexes → AllBefore i indexes)
  decide_before framed i = elim (decide_list_at b framed (class_word b i 3)) [
    | inl x ↦ elim (decide-all-below (λ k. NoneDefines b i (size_of b 5) (slice_index x.0 k)) (λ k. decide_undefined i (size_of b 5) (slice_index x.0 k)) (length x.0)) [
      | inl all ↦ inl (λ indexes at. to_each b framed i x.0 x.1 (AllBefore i) all indexes at)
      | inr nay ↦ inr (λ every. nay (every x.0 x.1))
    ]
    | inr none ↦ inl (λ indexes at. absurd (none (indexes, at)))
  ]

  pub decide_order : IsFramed b → (i : ℕ) → Decided (InOrder b i)
  decide_order framed i = decide_like
      (λ x. record { once = x.0; superclass = x.1.0; interfaces = x.1.1 })
      (λ (o : InOrder b i). (o.once, (o.superclass, o.interfaces)))
      (decide_both (decide_undefined 0 i (class_word b i 0))
      (decide_both (decide-implied (decide_not (decide_eq (class_word b i 2) no_index)) (λ _. decide_undefined i (size_of b 5) (class_word b i 2))) (decide_before framed i)))

-- ---- members

module _ {R V : Type 0} (M : ℕ → ℕ × R → V → Type 0) (IsOwner : ℕ → Units → Type 0) (size : ℕ) (class : Units)
    (row : (k : ℕ) (e : ℕ × R) → k < size → ((v : V) × M k e v) ⊎ (IsOwner k class → ⊥)) (owns : (k : ℕ) (e : ℕ × R) (v : V) → M k e v → IsOwner k class) (es : List (ℕ × R)) where
  -- the first n entries stand for members of the class, or an entry breaks a rule
  abbrev RunOrBreaks : ℕ → Type 0
  RunOrBreaks n = ((vs : List V) × FirstEntriesAre M es n vs) ⊎ ((code : ℕ) × EntriesBreak IsOwner size class (steps es) code)

  step_up : (n : ℕ) → Decided (0 < n → 0 < slice_index (steps es) n)
  step_up n = elim (cases_lt 0 n) [
    | inl some ↦ elim (cases_eq (slice_index (steps es) n) 0) [
      | inl same ↦ inr (λ rises. let up = rises some in omega (arith, up, same))
      | inr other ↦ inl (λ _. omega (arith, other))
    ]
    | inr none ↦ inl (λ some. absurd (omega (arith, none, some)))
  ]

  inside : (n : ℕ) → suc n ≤ length es → n < length (steps es)
  inside n le = let all = length-map es (λ (e : ℕ × R). e.0) in omega (arith, le, all)

  -- what entry n breaks is the first, where those before it stand for members
  first : (n : ℕ) (vs : List V) (code : ℕ) → suc n ≤ length es → FirstEntriesAre M es n vs → EntryBreaks IsOwner size class (steps es) n code → EntriesBreak IsOwner size class (steps es) code
  first n vs code le run breaks = record { number = n; within = inside n le; breaks = breaks; before = run_holds M IsOwner class owns es n vs (omega (arith, le)) run }

  run_or_breaks : (n : ℕ) → n ≤ length es → RunOrBreaks n
  run_or_breaks zero le = inl ([], runs_none M es)
  run_or_breaks (suc n) le = elim (run_or_breaks n (omega (arith, le))) [
    | inl x ↦
        let at = entry_at es n (omega (arith, le)) in
        elim (cases_lt (index_of (steps es) n) size) [
          | inl lt ↦ elim (row (index_of (steps es) n) at.0 lt) [
            | inl v ↦ elim (step_up n) [
              | inl up ↦
                  let more = runs_more M es n x.0 at.0 v.0 x.1 at.1 v.1 up in
                  let next : n + 1 ≡ suc n = omega arith in
                  inl (x.0 ++ v.0 ∷ [], subst (λ (k : ℕ). FirstEntriesAre M es k (x.0 ++ v.0 ∷ [])) next more)
              | inr flat ↦ inr (47, first n x.0 47 le x.1 (inr (lt, inr (owns (index_of (steps es) n) at.0 v.0 v.1, inl (flat, refl)))))
            ]
            | inr f ↦ inr (46, first n x.0 46 le x.1 (inr (lt, inl (f, refl))))
          ]
          | inr ge ↦ inr (45, first n x.0 45 le x.1 (inl ((λ lt. omega (arith, lt, ge)), refl)))
        ]
    | inr f ↦ inr f
  ]

  pub all_or_breaks : ((vs : List V) × EntriesAre M es vs) ⊎ ((code : ℕ) × EntriesBreak IsOwner size class (steps es) code)
  all_or_breaks = run_or_breaks (length es) (omega arith)

module _ (b : List ℕ) (framed : IsFramed b) (tables : TablesHold b) (class : Units) where
  field_row_of : (k : ℕ) (e : FieldEntry) → k < size_of b 3 → ((v : content.Member) × IsField b class k e v) ⊎ (FieldOwner b k class → ⊥)
  field_row_of k e lt =
      let row = tables.fields k lt in
      elim (decide_list row.name.class class) [
        | inl same ↦ inl (record { name = row.name.name; ty = row.name.ty; flags = e.1 }, field_stands b k k row.name class e refl same row.stands)
        | inr nay ↦ inr (λ o. nay (field_owner_one b framed k row.name.class class (row.name, row.stands, refl) o))
      ]

  method_row_of : (k : ℕ) (e : MethodEntry) → k < size_of b 4 → ((v : Method) × IsMethod b class k e v) ⊎ (MethodOwner b k class → ⊥)
  method_row_of k e lt =
      let row = tables.methods k lt in
      elim (decide_list row.name.class class) [
        | inl same ↦ inl (
          record { name = row.name.name; proto = row.name.proto; flags = e.1.0; code = None },
          record { method = subst (λ (t : Units). MethodStands b k (record { class = t; name = row.name.name; proto = row.name.proto })) same row.stands; flags = refl },
        )
        | inr nay ↦ inr (λ o. nay (method_owner_one b framed k row.name.class class (row.name, row.stands, refl) o))
      ]

  pub fields_or_breaks : (es : List FieldEntry) → ((vs : List content.Member) × EntriesAre (IsField b class) es vs) ⊎ ((code : ℕ) × FieldEntriesBreak b class es code)
  fields_or_breaks es = all_or_breaks (IsField b class) (FieldOwner b) (size_of b 3) class field_row_of (field_owned b class) es

  pub methods_or_breaks : (es : List MethodEntry) → ((vs : List Method) × EntriesAre (IsMethod b class) es vs) ⊎ ((code : ℕ) × MethodEntriesBreak b class es code)
  methods_or_breaks es = all_or_breaks (IsMethod b class) (MethodOwner b) (size_of b 4) class method_row_of (method_owned b class) es

-- ---- the row

optional : (S : ℕ → Units → Type 0) (size : ℕ) → ((k : ℕ) → k < size → (n : Units) × S k n) → (k : ℕ) → ((name : Option Units) × IndexOrNone S k name) ⊎ ((k ≢ no_index) × (size ≤ k))
optional S size there k = elim (cases_eq k no_index) [
  | inl none ↦ inl (None, none)
  | inr some ↦ elim (cases_lt k size) [
    | inl lt ↦ let n = there k lt in inl (Some n.0, (some, n.1))
    | inr ge ↦ inr (some, ge)
  ]
]

class_above : (above : Option Units) → ((t : Units) → above ≡ Some t → IsClass t) ⊎ (IfSome above IsClass → ⊥)
class_above None = inl (λ t e. absurd cc)
class_above (Some n) = elim (decide_class n) [
  | inl c ↦ inl (λ t e. let s : n ≡ t = cc in subst (λ (u : Units). IsClass u) s c)
  | inr nay ↦ inr nay
]

module _ (b : List ℕ) (framed : IsFramed b) (tables : TablesHold b) (i : ℕ) where
  -- what is asked after the row's names and kinds: interfaces, order, class data, members
  module _ (class : Units) (superclass source : Option Units) (row : RowIs b i class (class_word b i 1) superclass source) where
    module _ (interfaces : List Units) (list : InterfacesAt b (class_word b i 3) interfaces) where
      module _ (order : InOrder b i) (e : Entries) (data_at : EntriesAt b (class_word b i 6) e) where
        broken : (code : ℕ) → MembersBreak b class e code → HoldsOrBreaks ClassRowHolds ClassRowBreaks b i
        unfolding HoldsOrBreaks
        broken code breaks = inr (code, member b i row list order e data_at breaks)

        members_row : HoldsOrBreaks ClassRowHolds ClassRowBreaks b i
        unfolding HoldsOrBreaks
        members_row = elim (fields_or_breaks b framed tables class e.statics) [
          | inr f ↦ broken f.0 (inl f.1)
          | inl s ↦
              let statics = fields_hold b class e.statics s.0 s.1 in
              elim (fields_or_breaks b framed tables class e.instances) [
                | inr f ↦ broken f.0 (inr (statics, inl f.1))
                | inl n ↦
                    let instances = fields_hold b class e.instances n.0 n.1 in
                    elim (methods_or_breaks b framed tables class e.directs) [
                      | inr f ↦ broken f.0 (inr (statics, inr (instances, inl f.1)))
                      | inl d ↦ elim (methods_or_breaks b framed tables class e.virtuals) [
                        | inr f ↦ broken f.0 (inr (statics, inr (instances, inr (methods_hold b class e.directs d.0 d.1, f.1))))
                        | inl v ↦ inl (record {
                          entries = e;
                          class = record { ty = class; flags = class_word b i 1; superclass = superclass; interfaces = interfaces; source = source; statics = s.0; values = []; instances = n.0; directs = d.0; virtuals = v.0 };
                          head = record { row = row; interfaces = list; class_data = data_at; members = record { statics = s.1; instances = n.1; directs = d.1; virtuals = v.1 } };
                          order = order;
                        })
                      ]
                    ]
              ]
        ]

    after_names : HoldsOrBreaks ClassRowHolds ClassRowBreaks b i
    unfolding HoldsOrBreaks
    after_names = elim (decide_interfaces b framed tables (class_word b i 3)) [
      | inr none ↦ inr (43, interface_list b i row (λ ts at. none (ts, at)))
      | inl list ↦ elim (decide_order b framed i) [
        | inr nay ↦ inr (42, class_order b i row list.1 nay)
        | inl order ↦ elim (decide_entries_at b framed (class_word b i 6)) [
          | inr none ↦ inr (44, class_data b i row list.1 order (λ e at. none (e, at)))
          | inl e ↦ members_row list.0 list.1 order e.0 e.1
        ]
      ]
    ]

  pub class_row : i < size_of b 5 → HoldsOrBreaks ClassRowHolds ClassRowBreaks b i
  unfolding HoldsOrBreaks
  class_row lt = elim (cases_lt (class_word b i 0) (size_of b 1)) [
    | inr ge ↦ inr (40, class_index b i (inl ge))
    | inl c_in ↦ elim (optional (TypeStands b) (size_of b 1) (λ k l. let t = tables.types k l in (t.name, t.stands)) (class_word b i 2)) [
      | inr p ↦ inr (40, class_index b i (inr (inl p)))
      | inl above ↦ elim (optional (StringStands b) (size_of b 0) (λ k l. let s = tables.strings k l in (s.name, s.stands)) (class_word b i 4)) [
        | inr p ↦ inr (40, class_index b i (inr (inr p)))
        | inl source ↦
            let c = tables.types (class_word b i 0) c_in in
            elim (decide_class c.name) [
              | inr nay ↦ inr (41, class_kind b i c.name above.0 source.0 c.stands above.1 source.1 framed (inl nay))
              | inl is_class ↦ elim (class_above above.0) [
                | inr nay ↦ inr (41, class_kind b i c.name above.0 source.0 c.stands above.1 source.1 framed (inr nay))
                | inl above_class ↦
                    after_names c.name above.0 source.0 (record { named = c.stands; class = is_class; flagged = refl; above = above.1; above_class = above_class; written_in = source.1 })
              ]
            ]
      ]
    ]
  ]

pub classes_are_decided : (b : List ℕ) → IsFramed b → TablesHold b → ClassRowsHold b ⊎ ((e : Fault) × IsFirstRow ClassRowBreaks ClassRowHolds b 5 e)
classes_are_decided b framed tables = first_break ClassRowBreaks ClassRowHolds b 5 (λ i lt. class_row b framed tables i lt)

pub row_is_decided : (b : List ℕ) → IsFramed b → TablesHold b → (i : ℕ) → i < size_of b 5 → ClassRowHolds b i ⊎ ((code : ℕ) × ClassRowBreaks b i code)
unfolding HoldsOrBreaks
row_is_decided b framed tables i lt = class_row b framed tables i lt
