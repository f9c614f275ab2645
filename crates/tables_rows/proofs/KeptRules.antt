-- A row that holds keeps each rule of its table, also asked alone.
use Rattle.std.proofs.Common.{◌≡◌, ℕ, ◌<◌, ◌⊎◌, List, subst}
use Rattle.dex_base.specs.Descriptor.{IsDescriptor, IsClass, IsArray, IsMemberName}
use Rattle.dex_container.specs.Frame.{IsFramed}
use Rattle.dex_container.specs.Layout.{size_of}
use Rattle.dex_container.specs.Where.{IsInSection}
use Rattle.program_types.specs.Content.{Units, Proto}
use Rattle.program_types.specs.Kinds.{void}
use Rattle.program_types.specs.Shorty.{shorty}
use Rattle.tables_rows.specs.RowFields.{string_place, type_string, proto_shorty, proto_return, proto_parameters, member_class, member_kind, member_name}
use Rattle.tables_rows.specs.Stands.{StringStands, TypeStands}
use Rattle.tables_rows.specs.Sorted.{RowRises, StringIsBelow, TypeIsBelow, ProtoIsBelow, MemberIsBelow}
use Rattle.tables_rows.specs.TableFaults.{StringHolds, TypeHolds, ProtoHolds, FieldHolds, MethodHolds, ParametersAt, MemberIsIn}
use Rattle.tables_rows.proofs.RowReading.{string_one}
use Rattle.tables_rows.proofs.TypeLists.{type_one}
use Rattle.tables_rows.proofs.ClearRows.{text_placed, shorty_same}

pub string_keeps : (b : List ℕ) (i : ℕ) → StringHolds b i → IsInSection b 0x2002 (string_place b i) × ((s : Units) × StringStands b i s) × RowRises StringIsBelow b i
string_keeps b i h = (text_placed b (string_place b i) h.name h.stands.text, (h.name, h.stands), h.rises)

module _ (b : List ℕ) (framed : IsFramed b) (i : ℕ) where
  pub type_keeps : TypeHolds b i → (type_string b i < size_of b 0) × ((t : Units) → StringStands b (type_string b i) t → IsDescriptor t) × RowRises TypeIsBelow b i
  type_keeps h = (h.stands.string.row, λ t s. subst (λ (u : Units). IsDescriptor u) (string_one b (type_string b i) h.name t framed h.stands.string s) h.stands.descriptor, h.rises)

  pub proto_keeps : ProtoHolds b i → (proto_shorty b i < size_of b 0) × (proto_return b i < size_of b 1) × ((ts : List Units) × ParametersAt b (proto_parameters b i) ts)
      × ((p : Proto) (found : Units) → TypeStands b (proto_return b i) p.ret → ParametersAt b (proto_parameters b i) p.params → StringStands b (proto_shorty b i) found → found ≡ shorty p) × RowRises ProtoIsBelow b i
  proto_keeps h = (
    h.stands.shorty.row,
    h.stands.ret.row,
    (h.name.params, record { types = h.stands.params; values = h.stands.values }),
    (λ p found. shorty_same b framed i h.name p found h.stands),
    h.rises,
  )

  pub field_keeps : FieldHolds b i → MemberIsIn b 3 1 i × ((t : Units) → TypeStands b (member_class b 3 i) t → IsClass t) × (TypeStands b (member_kind b 3 i) void → ⊥)
      × ((s : Units) → StringStands b (member_name b 3 i) s → IsMemberName s) × RowRises (MemberIsBelow 3) b i
  field_keeps h = (
    record { class = h.stands.class.row; kind = h.stands.ty.row; name = h.stands.name.row },
    (λ t s. subst (λ (u : Units). IsClass u) (type_one b (member_class b 3 i) h.name.class t framed h.stands.class s) h.stands.of_class),
    (λ s. h.stands.value (type_one b (member_kind b 3 i) h.name.ty void framed h.stands.ty s)),
    (λ n s. subst (λ (u : Units). IsMemberName u) (string_one b (member_name b 3 i) h.name.name n framed h.stands.name s) h.stands.named),
    h.rises,
  )

  pub method_keeps : MethodHolds b i → MemberIsIn b 4 2 i × ((t : Units) → TypeStands b (member_class b 4 i) t → IsClass t ⊎ IsArray t)
      × ((s : Units) → StringStands b (member_name b 4 i) s → IsMemberName s) × RowRises (MemberIsBelow 4) b i
  method_keeps h = (
    record { class = h.stands.class.row; kind = h.stands.proto.row; name = h.stands.name.row },
    (λ t s. subst (λ (u : Units). IsClass u ⊎ IsArray u) (type_one b (member_class b 4 i) h.name.class t framed h.stands.class s) h.stands.of_class),
    (λ n s. subst (λ (u : Units). IsMemberName u) (string_one b (member_name b 4 i) h.name.name n framed h.stands.name s) h.stands.named),
    h.rises,
  )
