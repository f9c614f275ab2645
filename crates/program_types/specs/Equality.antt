-- When fields and methods are equal: in class, name and type or prototype, unit by unit.
use Rattle.std.specs.Prelude.{Bool, nat_eq}
use Rattle.std.specs.Cmp.{IsEquivalence, IsPartialEquivalence, partial_equiv_from_equiv}
use Rattle.std.specs.Ordering.{on, eq_of_both}
use Rattle.std.specs.Cmp.Lexicographic.{pointwise}
use Rattle.std.proofs.lemmas.Cmp.{on_equiv, and_equiv, lists_equiv, nat_list_eq_equiv}
use Rattle.program_types.specs.declared.names.Desc.{Desc}
use Rattle.program_types.specs.declared.names.Proto.{Proto}
use Rattle.program_types.specs.declared.names.FieldRef.{FieldRef}
use Rattle.program_types.specs.declared.names.MethodRef.{MethodRef}

-- types with the same units
abbrev pub same_type : Desc → Desc → Bool
same_type = on (λ d. d.text.units.now) (pointwise nat_eq)

-- prototypes with the same return type and the same parameters
abbrev pub same_proto : Proto → Proto → Bool
same_proto = eq_of_both (on (λ p. p.ret) same_type) (on (λ p. p.params.now) (pointwise same_type))

-- fields with the same class, name and type
abbrev pub same_field : FieldRef → FieldRef → Bool
same_field =
    eq_of_both (on (λ f. f.class) same_type)
    (eq_of_both (on (λ f. f.name.units.now) (pointwise nat_eq)) (on (λ f. f.ty) same_type))

-- methods with the same class, name and prototype
abbrev pub same_method : MethodRef → MethodRef → Bool
same_method =
    eq_of_both (on (λ m. m.class) same_type)
    (eq_of_both (on (λ m. m.name.units.now) (pointwise nat_eq)) (on (λ m. m.proto.now) same_proto))

-- `==` of types, of prototypes and of methods holds of each and itself, both ways round, and along a chain
type_equiv : IsEquivalence same_type
type_equiv = on_equiv (λ (d : Desc). d.text.units.now) nat_list_eq_equiv

proto_equiv : IsEquivalence same_proto
proto_equiv = and_equiv (on_equiv (λ (p : Proto). p.ret) type_equiv) (on_equiv (λ (p : Proto). p.params.now) (lists_equiv type_equiv))

pub method_equiv : IsEquivalence same_method
method_equiv =
    and_equiv (on_equiv (λ (m : MethodRef). m.class) type_equiv)
    (and_equiv (on_equiv (λ (m : MethodRef). m.name.units.now) nat_list_eq_equiv) (on_equiv (λ (m : MethodRef). m.proto.now) proto_equiv))

pub method_per : IsPartialEquivalence same_method
method_per = partial_equiv_from_equiv method_equiv
