-- A row of a table holds, or it breaks a rule.
use Rattle.std.proofs.Common.{◌≡◌, ℕ, zero, suc, ◌<◌, ◌⊎◌, inl, inr, List, ◌∷◌, refl, subst, arith, nat_cmp}
use Rattle.std.proofs.lemmas.Bool.{cases_lt}
use Rattle.std.specs.declared.cmp.Ordering.{Ordering}
use Rattle.std.specs.declared.cmp.Ordering.TheVariants.{Less}
use Rattle.std.specs.Cmp.Lexicographic.{slice_cmp}
use Rattle.dex_base.specs.declared.fault.Fault.{Fault}
use Rattle.dex_container.specs.Frame.{IsFramed}
use Rattle.dex_container.specs.Layout.{size_of}
use Rattle.program_types.specs.Content.{Units, Proto, FieldRef, MethodRef}
use Rattle.program_types.specs.Shorty.{shorty}
use Rattle.tables_rows.specs.RowFields.{row_place, string_place, type_string, proto_shorty, proto_return, proto_parameters, member_class, member_kind, member_name, member_indices}
use Rattle.tables_rows.specs.Sorted.{IsBelow, RowRises, StringIsBelow, TypeIsBelow, ProtoIsBelow, MemberIsBelow, RowsHold, TablesHold, AllRows}
use Rattle.program_types.specs.Kinds.{void}
use Rattle.tables_rows.specs.Stands.{TypeStands, ProtoStands, FieldStands, MethodStands}
use Rattle.tables_rows.specs.TableFaults.{StringHolds, TypeHolds, ProtoHolds, FieldHolds, MethodHolds, StringBreaks, TypeBreaks, ProtoBreaks, FieldBreaks, MethodBreaks, IsTableFault}
use Rattle.tables_rows.specs.inner.TableFaults.{IsFirstRow}
use Rattle.tables_rows.proofs.ClearRows.{string_unplaced, string_spelling, string_order, type_index, type_text, type_order, proto_index, parameter_list, other_shorty, proto_order, field_index, field_kind, field_order, method_index, method_kind, method_order}
use Rattle.tables_rows.proofs.RowReading.{string_one}
use Rattle.tables_rows.proofs.TypeLists.{protos_below, below_protos, protos_below_none, protos_none_below}
use Rattle.dex_base.specs.Deciding.{Decided}
use Rattle.dex_base.proofs.FirstFaultLaws.{first_decided}
use Rattle.dex_base.proofs.Deciding.{decide_like, decide_either, decide_lt, decide_list}
use Rattle.dex_base.proofs.NamesDecided.{decide_descriptor, decide_class, decide_array, decide_member}
use Rattle.dex_container.proofs.PlacesDecided.{decide_in}
use Rattle.tables_rows.proofs.RowsDecided.{decide_string, decide_list_at, decide_parameters}

-- ---- order

decide_less : (o : Ordering) → Decided (o ≡ Less)
decide_less Less = inl refl
decide_less _ = inr (λ e. absurd cc)

decide_rises : (Below : List ℕ → ℕ → ℕ → Type 0) (b : List ℕ) (i : ℕ) → ((j : ℕ) → Decided (Below b j i)) → Decided (RowRises Below b i)
decide_rises Below b zero d = inl (λ j is. absurd (omega (arith, is)))
decide_rises Below b (suc i) d = decide_like
    (λ below j is. let e : i ≡ j = omega (arith, is) in subst (λ (k : ℕ). Below b k (suc i)) e below)
    (λ (rises : RowRises Below b (suc i)). rises i (omega arith))
    (d i)

module _ (b : List ℕ) (framed : IsFramed b) (j i : ℕ) where
  decide_strings : Decided (StringIsBelow b j i)
  decide_strings = elim (decide_string b framed j) [
    | inl x ↦ elim (decide_string b framed i) [
      | inl y ↦ decide_like
          (λ below s t at_j at_i. subst (λ (u : Units). IsBelow u t) (string_one b j x.0 s framed x.1 at_j) (subst (λ (u : Units). IsBelow x.0 u) (string_one b i y.0 t framed y.1 at_i) below))
          (λ (below : StringIsBelow b j i). below x.0 y.0 x.1 y.1)
          (decide_less (slice_cmp nat_cmp x.0 y.0))
      | inr none ↦ inl (λ s t at_j at_i. absurd (none (t, at_i)))
    ]
    | inr none ↦ inl (λ s t at_j at_i. absurd (none (s, at_j)))
  ]

  decide_protos : Decided (ProtoIsBelow b j i)
  decide_protos = elim (decide_list_at b framed (proto_parameters b j)) [
    | inl x ↦ elim (decide_list_at b framed (proto_parameters b i)) [
      | inl y ↦ decide_like
          (protos_below b framed j i x.0 y.0 x.1 y.1)
          (below_protos b framed j i x.0 y.0 x.1 y.1)
          (decide_less (slice_cmp nat_cmp (proto_return b j ∷ x.0) (proto_return b i ∷ y.0)))
      | inr none ↦ inl (protos_none_below b j i (λ ys at. none (ys, at)))
    ]
    | inr none ↦ inl (protos_below_none b j i (λ xs at. none (xs, at)))
  ]

-- ---- rows

-- the row holds, or it breaks this rule
unfoldable pub HoldsOrBreaks : (List ℕ → ℕ → Type 0) → (List ℕ → ℕ → ℕ → Type 0) → List ℕ → ℕ → Type 0
HoldsOrBreaks Holds Breaks b i = Holds b i ⊎ ((code : ℕ) × Breaks b i code)

module _ (b : List ℕ) (framed : IsFramed b) (i : ℕ) where
  pub string_row : i < size_of b 0 → HoldsOrBreaks StringHolds StringBreaks b i
  unfolding HoldsOrBreaks
  string_row lt = elim (decide_in b framed 0x2002 (string_place b i)) [
    | inl in_section ↦ elim (decide_string b framed i) [
      | inl x ↦ elim (decide_rises StringIsBelow b i (λ j. decide_strings b framed j i)) [
        | inl up ↦ inl (record { name = x.0; stands = x.1; rises = up })
        | inr down ↦ inr (22, string_order b i x.1 down)
      ]
      | inr none ↦ inr (21, string_spelling b i in_section (λ s st. none (s, st)))
    ]
    | inr out ↦ inr (20, string_unplaced b i out)
  ]

  pub type_row : AllRows StringHolds b 0 → i < size_of b 1 → HoldsOrBreaks TypeHolds TypeBreaks b i
  unfolding HoldsOrBreaks
  type_row strings lt = elim (cases_lt (type_string b i) (size_of b 0)) [
    | inl in_table ↦
        let s = strings (type_string b i) in_table in
        elim (decide_descriptor s.name) [
          | inl is ↦
              let stands : TypeStands b i s.name = record { row = lt; string = s.stands; descriptor = is } in
              elim (decide_rises TypeIsBelow b i (λ j. decide_lt (type_string b j) (type_string b i))) [
                | inl up ↦ inl (record { name = s.name; stands = stands; rises = up })
                | inr down ↦ inr (25, type_order b i stands down)
              ]
          | inr nay ↦ inr (24, type_text b i framed s.name s.stands nay)
        ]
    | inr past ↦ inr (23, type_index b i past)
  ]

  pub proto_row : AllRows StringHolds b 0 → AllRows TypeHolds b 1 → i < size_of b 2 → HoldsOrBreaks ProtoHolds ProtoBreaks b i
  unfolding HoldsOrBreaks
  proto_row strings types lt = elim (cases_lt (proto_shorty b i) (size_of b 0)) [
    | inl s_in ↦ elim (cases_lt (proto_return b i) (size_of b 1)) [
      | inl t_in ↦
          let s = strings (proto_shorty b i) s_in in
          let t = types (proto_return b i) t_in in
          elim (decide_parameters b framed types (proto_parameters b i)) [
            | inl x ↦
                let p : Proto = record { ret = t.name; params = x.0 } in
                elim (decide_list s.name (shorty p)) [
                  | inl same ↦
                      let stands : ProtoStands b i p = record { row = lt; ret = t.stands; params = x.1.types; values = x.1.values; shorty = rw same at s.stands } in
                      elim (decide_rises ProtoIsBelow b i (λ j. decide_protos b framed j i)) [
                        | inl up ↦ inl (record { name = p; stands = stands; rises = up })
                        | inr down ↦ inr (29, proto_order b i stands down)
                      ]
                  | inr nay ↦ inr (27, other_shorty b i framed p s.name t.stands x.1 s.stands nay)
                ]
            | inr none ↦ inr (28, parameter_list b i s_in t_in (λ ts at. none (ts, at)))
          ]
      | inr past ↦ inr (26, proto_index b i (inr past))
    ]
    | inr past ↦ inr (26, proto_index b i (inl past))
  ]

  pub field_row : AllRows StringHolds b 0 → AllRows TypeHolds b 1 → i < size_of b 3 → HoldsOrBreaks FieldHolds FieldBreaks b i
  unfolding HoldsOrBreaks
  field_row strings types lt = elim (cases_lt (member_class b 3 i) (size_of b 1)) [
    | inl c_in ↦ elim (cases_lt (member_kind b 3 i) (size_of b 1)) [
      | inl t_in ↦ elim (cases_lt (member_name b 3 i) (size_of b 0)) [
        | inl n_in ↦
            let c = types (member_class b 3 i) c_in in
            let t = types (member_kind b 3 i) t_in in
            let n = strings (member_name b 3 i) n_in in
            let f : FieldRef = record { class = c.name; name = n.name; ty = t.name } in
            elim (decide_class c.name) [
              | inl is_class ↦ elim (decide_list t.name void) [
                | inl is_void ↦ inr (31, field_kind b i framed f c.stands t.stands n.stands (inr (inl is_void)))
                | inr value ↦ elim (decide_member n.name) [
                  | inl named ↦
                      let stands : FieldStands b i f = record { row = lt; class = c.stands; ty = t.stands; name = n.stands; of_class = is_class; value = value; named = named } in
                      elim (decide_rises (MemberIsBelow 3) b i (λ j. decide_less (slice_cmp nat_cmp (member_indices b 3 j) (member_indices b 3 i)))) [
                        | inl up ↦ inl (record { name = f; stands = stands; rises = up })
                        | inr down ↦ inr (32, field_order b i stands down)
                      ]
                  | inr nay ↦ inr (31, field_kind b i framed f c.stands t.stands n.stands (inr (inr nay)))
                ]
              ]
              | inr nay ↦ inr (31, field_kind b i framed f c.stands t.stands n.stands (inl nay))
            ]
        | inr past ↦ inr (30, field_index b i (inr (inr past)))
      ]
      | inr past ↦ inr (30, field_index b i (inr (inl past)))
    ]
    | inr past ↦ inr (30, field_index b i (inl past))
  ]

  pub method_row : AllRows StringHolds b 0 → AllRows TypeHolds b 1 → AllRows ProtoHolds b 2 → i < size_of b 4 → HoldsOrBreaks MethodHolds MethodBreaks b i
  unfolding HoldsOrBreaks
  method_row strings types protos lt = elim (cases_lt (member_class b 4 i) (size_of b 1)) [
    | inl c_in ↦ elim (cases_lt (member_kind b 4 i) (size_of b 2)) [
      | inl p_in ↦ elim (cases_lt (member_name b 4 i) (size_of b 0)) [
        | inl n_in ↦
            let c = types (member_class b 4 i) c_in in
            let p = protos (member_kind b 4 i) p_in in
            let n = strings (member_name b 4 i) n_in in
            let m : MethodRef = record { class = c.name; name = n.name; proto = p.name } in
            elim (decide_either (decide_class c.name) (decide_array c.name)) [
              | inl of_class ↦ elim (decide_member n.name) [
                | inl named ↦
                    let stands : MethodStands b i m = record { row = lt; class = c.stands; proto = p.stands; name = n.stands; of_class = of_class; named = named } in
                    elim (decide_rises (MemberIsBelow 4) b i (λ j. decide_less (slice_cmp nat_cmp (member_indices b 4 j) (member_indices b 4 i)))) [
                      | inl up ↦ inl (record { name = m; stands = stands; rises = up })
                      | inr down ↦ inr (35, method_order b i stands down)
                    ]
                | inr nay ↦ inr (34, method_kind b i framed m c.stands p.stands n.stands (inr nay))
              ]
              | inr nay ↦ inr (34, method_kind b i framed m c.stands p.stands n.stands (inl nay))
            ]
        | inr past ↦ inr (33, method_index b i (inr (inr past)))
      ]
      | inr past ↦ inr (33, method_index b i (inr (inl past)))
    ]
    | inr past ↦ inr (33, method_index b i (inl past))
  ]

-- ---- tables

-- all rows hold, or there is a first that breaks a rule
pub first_break : (Breaks : List ℕ → ℕ → ℕ → Type 0) (Holds : List ℕ → ℕ → Type 0) (b : List ℕ) (k : ℕ) → ((i : ℕ) → i < size_of b k → HoldsOrBreaks Holds Breaks b i) → RowsHold Holds b (size_of b k) ⊎ ((e : Fault) × IsFirstRow Breaks Holds b k e)
unfolding HoldsOrBreaks
first_break Breaks Holds b k row = first_decided (λ i lt. elim (row i lt) [
  | inl hold ↦ inl hold
  | inr u ↦ inr (record { code = u.0; place = row_place b k i }, record { breaks = u.1; place = refl })
])

pub tables_are_decided : (b : List ℕ) → IsFramed b → TablesHold b ⊎ ((e : Fault) × IsTableFault b e)
tables_are_decided b framed =
    elim (first_break StringBreaks StringHolds b 0 (string_row b framed)) [
      | inr f ↦ inr (f.0, (framed, inl f.1))
      | inl strings ↦
          elim (first_break TypeBreaks TypeHolds b 1 (λ i. type_row b framed i strings)) [
            | inr f ↦ inr (f.0, (framed, inr (strings, inl f.1)))
            | inl types ↦
                elim (first_break ProtoBreaks ProtoHolds b 2 (λ i. proto_row b framed i strings types)) [
                  | inr f ↦ inr (f.0, (framed, inr (strings, inr (types, inl f.1))))
                  | inl protos ↦
                      elim (first_break FieldBreaks FieldHolds b 3 (λ i. field_row b framed i strings types)) [
                        | inr f ↦ inr (f.0, (framed, inr (strings, inr (types, inr (protos, inl f.1)))))
                        | inl fields ↦
                            elim (first_break MethodBreaks MethodHolds b 4 (λ i. method_row b framed i strings types protos)) [
                              | inr f ↦ inr (f.0, (framed, inr (strings, inr (types, inr (protos, inr (fields, inl f.1))))))
                              | inl methods ↦
                                  inl (record { strings = strings; types = types; protos = protos; fields = fields; methods = methods })
                            ]
                      ]
                ]
          ]
    ]
