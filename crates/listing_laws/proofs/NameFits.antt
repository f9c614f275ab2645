-- Names that a file can have are written in their slots.
use Rattle.std.proofs.Common.{ℕ, ◌<◌, ◌^◌, List, [], ◌∷◌, ◌++◌, arith}
use Rattle.std.specs.List.{flat_map, AllByRecursion}
use Rattle.dex_base.specs.Descriptor.{IsDescriptor}
use Rattle.program_types.specs.Content.{Descriptor, Proto, Name, OfText, OfDesc, OfField, OfMethod, AreUnits}
use Rattle.program_rules.specs.Valid.{IsValueType, IsValidProto, IsValidName}
use Rattle.program_rules.specs.Ranges.{ProtoInRange, NameInRange}
use Rattle.listing_words.specs.Written.{proto_units}
use Rattle.listing_slots.specs.inner.Shown.{IsProto, FitsSlot}
use Rattle.listing_print.specs.Operands.{name_operand}
use Rattle.dex_base.proofs.ListFacts.{all_append, all_weaker}
use Rattle.dex_base.proofs.DescriptorLaws.{class_is_descriptor, owner_is_descriptor}

-- The name is one that a file can have, and its units are of 16 bits.
abbrev pub IsNamed : Name → Type 0
IsNamed n = IsValidName n × NameInRange n

abbrev IsUnit : ℕ → Type 0
IsUnit u = u < 2 ^ 16

params_units : (ps : List Descriptor) → AllByRecursion AreUnits ps → AreUnits (flat_map (λ t. t) ps)
params_units [] h = tt
params_units (p ∷ ps) h = all_append IsUnit p (flat_map (λ t. t) ps) h.0 (params_units ps h.1)

units_of : (p : Proto) → ProtoInRange p → AreUnits (proto_units p)
units_of p r = (omega arith, all_append IsUnit (flat_map (λ t. t) p.params) (41 ∷ p.ret) (params_units p.params r.params) (omega arith, r.ret))

pub proto_fits : (p : Proto) → IsValidProto p → ProtoInRange p → IsProto p
proto_fits p v r = record { params = all_weaker IsValueType IsDescriptor (λ t value. value.descriptor) p.params v.params; ret = v.ret; units = units_of p r }

member_units : (class name tail : List ℕ) → AreUnits class → AreUnits name → AreUnits tail → AreUnits (class ++ (45 ∷ 62 ∷ (name ++ tail)))
member_units class name tail c n t = all_append IsUnit class (45 ∷ 62 ∷ (name ++ tail)) c (omega arith, (omega arith, all_append IsUnit name tail n t))

pub name_fits : (n : Name) → IsNamed n → FitsSlot (name_operand n).slot (name_operand n).value
name_fits (OfText us) (v, r) = r
name_fits (OfDesc d) (v, r) = (v, r)
name_fits (OfField f) (v, r) = record {
  class = (class_is_descriptor f.class v.class).0;
  name = v.name;
  ty = v.ty.descriptor;
  units = member_units f.class f.name (58 ∷ f.ty) r.class r.name (omega arith, r.ty);
}
name_fits (OfMethod m) (v, r) = record {
  class = owner_is_descriptor m.class v.class;
  name = v.name;
  params = all_weaker IsValueType IsDescriptor (λ t value. value.descriptor) m.proto.params v.proto.params;
  ret = v.proto.ret;
  units = member_units m.class m.name (proto_units m.proto) r.class r.name (units_of m.proto r.proto);
}
