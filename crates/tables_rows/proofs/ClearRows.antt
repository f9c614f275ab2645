-- Which rule a row breaks, and that one that holds breaks none.
use Rattle.std.proofs.Common.{◌≡◌, ◌≢◌, ℕ, ◌<◌, ◌≤◌, ◌⊎◌, refl, inl, inr, List, [], length, drop, ap, ◌∙◌, subst, arith, length-take, length-append, ◌∷◌}
use Rattle.std.proofs.lemmas.Bool.{cases_lt}
use Rattle.dex_base.specs.declared.fault.Fault.{Fault}
use Rattle.dex_base.proofs.FirstFaultLaws.{else_clear, first_clear}
use Rattle.dex_base.specs.Fault.{memory}
use Rattle.dex_base.specs.Descriptor.{IsDescriptor, IsClass, IsArray, IsMemberName}
use Rattle.dex_base.specs.Mutf8.{SpellsText}
use Rattle.dex_container.specs.Frame.{IsFramed}
use Rattle.dex_container.specs.Layout.{size_of}
use Rattle.program_types.specs.Content.{Units, Proto, FieldRef, MethodRef}
use Rattle.dex_container.specs.Where.{slice, At, IsInSection}
use Rattle.tables_rows.specs.RowFields.{string_place, type_string, proto_shorty, proto_return, proto_parameters, member_class, member_kind, member_name}
use Rattle.program_types.specs.Kinds.{void}
use Rattle.program_types.specs.Shorty.{shorty}
use Rattle.tables_rows.specs.Sorted.{RowRises, StringIsBelow, TypeIsBelow, ProtoIsBelow, MemberIsBelow, RowsHold}
use Rattle.tables_rows.specs.TableFaults.{StringHolds, TypeHolds, ProtoHolds, FieldHolds, MethodHolds, StringBreaks, TypeBreaks, ProtoBreaks, FieldBreaks, MethodBreaks, ParametersAt, MemberIsIn}
use Rattle.tables_rows.specs.inner.TableFaults.{IsFirstRow}
use Rattle.tables_rows.specs.Stands.{StringStands, TypeStands, ProtoStands, FieldStands, MethodStands}
use Rattle.dex_container.proofs.Standing.{at_place}
use Rattle.tables_rows.proofs.RowReading.{string_one}
use Rattle.tables_rows.proofs.TypeLists.{type_one, types_one}

-- a text takes a byte at least, so its first byte lies in the section
pub text_placed : (b : List ℕ) (place : ℕ) (s : Units) → At SpellsText b 0x2002 1 place s → IsInSection b 0x2002 place
unfolding slice
text_placed b place s a =
    let n = ap length a.spelled.joined in
    let front = length-append a.spelled.front (0 ∷ []) in
    let short = length-take a.size (drop place b) in
    at_place SpellsText b 0x2002 1 place s a (omega (arith, n, front, short))

-- a proto that stands has its own shorty
pub shorty_same : (b : List ℕ) → IsFramed b → (i : ℕ) (p q : Proto) (found : Units) → ProtoStands b i p → TypeStands b (proto_return b i) q.ret → ParametersAt b (proto_parameters b i) q.params → StringStands b (proto_shorty b i) found → found ≡ shorty q
shorty_same b framed i p q found s ret params string =
    let same : p ≡ q = (λ k. record { ret = type_one b (proto_return b i) p.ret q.ret framed s.ret ret k; params = types_one b (proto_parameters b i) p.params q.params framed s.params params.types k }) in
    string_one b (proto_shorty b i) found (shorty p) framed string s.shorty ∙ ap shorty same

-- an index of a member is out of its table
pub member_out : {b : List ℕ} {k kinds i : ℕ} → (size_of b 1 ≤ member_class b k i) ⊎ (size_of b kinds ≤ member_kind b k i) ⊎ (size_of b 0 ≤ member_name b k i) → MemberIsIn b k kinds i → ⊥
member_out (inl past) x = let lt = x.class in omega (arith, lt, past)
member_out (inr (inl past)) x = let lt = x.kind in omega (arith, lt, past)
member_out (inr (inr past)) x = let lt = x.name in omega (arith, lt, past)

-- ---- the rule that a row breaks

module _ (b : List ℕ) (i : ℕ) where
  pub string_unplaced : (IsInSection b 0x2002 (string_place b i) → ⊥) → StringBreaks b i 20
  unfolding StringBreaks
  string_unplaced out = inl (out, refl)

  pub string_spelling : IsInSection b 0x2002 (string_place b i) → ((s : Units) → StringStands b i s → ⊥) → StringBreaks b i 21
  unfolding StringBreaks
  string_spelling inside none = inr (inside, inl ((λ x. none x.0 x.1), refl))

  pub string_order : {s : Units} → StringStands b i s → (RowRises StringIsBelow b i → ⊥) → StringBreaks b i 22
  unfolding StringBreaks
  string_order {s} stands falls = inr (text_placed b (string_place b i) s stands.text, inr ((s, stands), inl (falls, refl)))

  pub type_index : size_of b 0 ≤ type_string b i → TypeBreaks b i 23
  unfolding TypeBreaks
  type_index past = inl ((λ lt. omega (arith, lt, past)), refl)

  pub type_text : IsFramed b → (s : Units) → StringStands b (type_string b i) s → (IsDescriptor s → ⊥) → TypeBreaks b i 24
  unfolding TypeBreaks
  type_text framed s stands not = inr (stands.row, inl ((λ x. not (subst (λ u. IsDescriptor u) (string_one b (type_string b i) x.0 s framed x.1.string stands) x.1.descriptor)), refl))

  pub type_order : {t : Units} → TypeStands b i t → (RowRises TypeIsBelow b i → ⊥) → TypeBreaks b i 25
  unfolding TypeBreaks
  type_order {t} stands falls = inr (stands.string.row, inr ((t, stands), inl (falls, refl)))

  pub proto_index : (size_of b 0 ≤ proto_shorty b i) ⊎ (size_of b 1 ≤ proto_return b i) → ProtoBreaks b i 26
  unfolding ProtoBreaks
  proto_index (inl past) = inl ((λ x. let lt = x.0 in omega (arith, lt, past)), refl)
  proto_index (inr past) = inl ((λ x. let lt = x.1 in omega (arith, lt, past)), refl)

  pub parameter_list : proto_shorty b i < size_of b 0 → proto_return b i < size_of b 1 → ((ts : List Units) → ParametersAt b (proto_parameters b i) ts → ⊥) → ProtoBreaks b i 28
  unfolding ProtoBreaks
  parameter_list s r none = inr ((s, r), inl ((λ x. none x.0 x.1), refl))

  pub other_shorty : IsFramed b → (p : Proto) (found : Units) → TypeStands b (proto_return b i) p.ret → ParametersAt b (proto_parameters b i) p.params → StringStands b (proto_shorty b i) found → (found ≡ shorty p → ⊥) → ProtoBreaks b i 27
  unfolding ProtoBreaks
  other_shorty framed p found ret params string differs =
      inr ((string.row, ret.row), inr ((p.params, params), inl ((λ x. differs (shorty_same b framed i x.0 p found x.1 ret params string)), refl)))

  pub proto_order : {p : Proto} → ProtoStands b i p → (RowRises ProtoIsBelow b i → ⊥) → ProtoBreaks b i 29
  unfolding ProtoBreaks
  proto_order {p} s falls = inr ((s.shorty.row, s.ret.row), inr ((p.params, record { types = s.params; values = s.values }), inr ((p, s), inl (falls, refl))))

  pub field_index : (size_of b 1 ≤ member_class b 3 i) ⊎ (size_of b 1 ≤ member_kind b 3 i) ⊎ (size_of b 0 ≤ member_name b 3 i) → FieldBreaks b i 30
  unfolding FieldBreaks
  field_index past = inl (member_out past, refl)

  pub field_kind : IsFramed b → (f : FieldRef) → TypeStands b (member_class b 3 i) f.class → TypeStands b (member_kind b 3 i) f.ty → StringStands b (member_name b 3 i) f.name
      → (IsClass f.class → ⊥) ⊎ (f.ty ≡ void) ⊎ (IsMemberName f.name → ⊥) → FieldBreaks b i 31
  unfolding FieldBreaks
  field_kind framed f class ty name unfit = inr (record { class = class.row; kind = ty.row; name = name.row }, inl ((λ x. by x.0 x.1 unfit), refl))
    where
      by : (g : FieldRef) → FieldStands b i g → (IsClass f.class → ⊥) ⊎ (f.ty ≡ void) ⊎ (IsMemberName f.name → ⊥) → ⊥
      by g s (inl not) = not (subst (λ t. IsClass t) (type_one b (member_class b 3 i) g.class f.class framed s.class class) s.of_class)
      by g s (inr (inl is)) = s.value (type_one b (member_kind b 3 i) g.ty f.ty framed s.ty ty ∙ is)
      by g s (inr (inr not)) = not (subst (λ t. IsMemberName t) (string_one b (member_name b 3 i) g.name f.name framed s.name name) s.named)

  pub field_order : {f : FieldRef} → FieldStands b i f → (RowRises (MemberIsBelow 3) b i → ⊥) → FieldBreaks b i 32
  unfolding FieldBreaks
  field_order {f} s falls = inr (record { class = s.class.row; kind = s.ty.row; name = s.name.row }, inr ((f, s), inl (falls, refl)))

  pub method_index : (size_of b 1 ≤ member_class b 4 i) ⊎ (size_of b 2 ≤ member_kind b 4 i) ⊎ (size_of b 0 ≤ member_name b 4 i) → MethodBreaks b i 33
  unfolding MethodBreaks
  method_index past = inl (member_out past, refl)

  pub method_kind : IsFramed b → (m : MethodRef) → TypeStands b (member_class b 4 i) m.class → ProtoStands b (member_kind b 4 i) m.proto → StringStands b (member_name b 4 i) m.name
      → (IsClass m.class ⊎ IsArray m.class → ⊥) ⊎ (IsMemberName m.name → ⊥) → MethodBreaks b i 34
  unfolding MethodBreaks
  method_kind framed m class proto name unfit = inr (record { class = class.row; kind = proto.row; name = name.row }, inl ((λ x. by x.0 x.1 unfit), refl))
    where
      by : (n : MethodRef) → MethodStands b i n → (IsClass m.class ⊎ IsArray m.class → ⊥) ⊎ (IsMemberName m.name → ⊥) → ⊥
      by n s (inl not) = not (subst (λ t. IsClass t ⊎ IsArray t) (type_one b (member_class b 4 i) n.class m.class framed s.class class) s.of_class)
      by n s (inr not) = not (subst (λ t. IsMemberName t) (string_one b (member_name b 4 i) n.name m.name framed s.name name) s.named)

  pub method_order : {m : MethodRef} → MethodStands b i m → (RowRises (MemberIsBelow 4) b i → ⊥) → MethodBreaks b i 35
  unfolding MethodBreaks
  method_order {m} s falls = inr (record { class = s.class.row; kind = s.proto.row; name = s.name.row }, inr ((m, s), inl (falls, refl)))

-- ---- rows that hold are clear

module _ (b : List ℕ) (i code : ℕ) where
  pub string_clear : StringHolds b i → StringBreaks b i code → ⊥
  unfolding StringBreaks
  string_clear h = else_clear (text_placed b (string_place b i) h.name h.stands.text) (else_clear (h.name, h.stands) (else_clear h.rises (λ none. none)))

  pub type_clear : TypeHolds b i → TypeBreaks b i code → ⊥
  unfolding TypeBreaks
  type_clear h = else_clear h.stands.string.row (else_clear (h.name, h.stands) (else_clear h.rises (λ none. none)))

  pub proto_clear : ProtoHolds b i → ProtoBreaks b i code → ⊥
  unfolding ProtoBreaks
  proto_clear h =
      let s = h.stands in
      else_clear (s.shorty.row, s.ret.row) (else_clear (h.name.params, record { types = s.params; values = s.values }) (else_clear (h.name, s) (else_clear h.rises (λ none. none))))

  pub field_clear : FieldHolds b i → FieldBreaks b i code → ⊥
  unfolding FieldBreaks
  field_clear h =
      let s = h.stands in
      else_clear (record { class = s.class.row; kind = s.ty.row; name = s.name.row }) (else_clear (h.name, s) (else_clear h.rises (λ none. none)))

  pub method_clear : MethodHolds b i → MethodBreaks b i code → ⊥
  unfolding MethodBreaks
  method_clear h =
      let s = h.stands in
      else_clear (record { class = s.class.row; kind = s.proto.row; name = s.name.row }) (else_clear (h.name, s) (else_clear h.rises (λ none. none)))

-- a table whose rows hold has no first fault
pub no_first : (Breaks : List ℕ → ℕ → ℕ → Type 0) (Holds : List ℕ → ℕ → Type 0) (b : List ℕ) (k : ℕ) (e : Fault) → ((i code : ℕ) → Holds b i → Breaks b i code → ⊥) → RowsHold Holds b (size_of b k) → IsFirstRow Breaks Holds b k e → ⊥
no_first Breaks Holds b k e clear = first_clear (λ i x h broken. clear i x.code h broken.breaks)

-- a fault that is not other than out of memory
pub only_memory : (e : Fault) → ((e ≢ memory) → ⊥) → e ≡ memory
only_memory e not = elim (cases_lt e.code 255) [
  | inl lt ↦ absurd (not (λ is. let c : e.code ≡ 255 = ap (λ (x : Fault). x.code) is in omega (arith, c, lt)))
  | inr ge ↦ elim (cases_lt 255 e.code) [
    | inl gt ↦ absurd (not (λ is. let c : e.code ≡ 255 = ap (λ (x : Fault). x.code) is in omega (arith, c, gt)))
    | inr le ↦ elim (cases_lt 0 e.place) [
      | inl some ↦ absurd (not (λ is. let p : e.place ≡ 0 = ap (λ (x : Fault). x.place) is in omega (arith, p, some)))
      | inr none ↦
          let c : e.code ≡ 255 = omega (arith, ge, le) in
          let p : e.place ≡ 0 = omega (arith, none) in
          (λ k. record { code = c k; place = p k })
    ]
  ]
]
