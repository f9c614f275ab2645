-- A program that keeps the rules, and whose numbers lie in their ranges, is written.
use Rattle.std.proofs.Common.{◌≡◌, ℕ, suc, List, [], ◌∷◌, map, Option, Some, None, IfSome, refl, arith}
use Rattle.std.specs.List.{AllByRecursion, flat_map, slice_get}
use Rattle.program_types.specs.Content as content
use Rattle.program_types.specs.Content.{Units, Descriptor, Name, OfText, OfDesc, OfField, Value, Values, no_values, more_values, Code, Member, Method, Class, Program}
use Rattle.program_types.specs.Mentions.{if_any, names_of_value, names_of_values, names_of_code, field_of_class, names_of_method, names_of_class}
use Rattle.program_rules.specs.Valid.{IsValidName}
use Rattle.program_types.specs.Formed.{IsFormed}
use Rattle.program_rules.proofs.FormedLaws.{class_formed}
use Rattle.program_rules.specs.Rules.{ClassHolds, member_key, method_key}
use Rattle.program_rules.specs.Ranges.{NameInRange, ValueInRange, ValuesInRange, MemberInRange, DefinedInRange, ClassInRange}
use Rattle.program_rules.specs.WellFormed.{WellFormed}
use Rattle.listing_slots.specs.declared.key.Key.TheVariants as key
use Rattle.listing_print.specs.Operands.{keyword, value_operands, values_operands}
use Rattle.listing_print.specs.Printed.{member_operands}
use Rattle.listing_print.specs.inner.Reading.{FitOperands}
use Rattle.listing_laws.proofs.Printable.{FieldFits, GivenFits, givens, BodyFits, MethodFits, SuperFits, SourceFits, InterfaceFits, ClassFits, IsPrintable}
use Rattle.listing_laws.proofs.NameFits.{IsNamed, proto_fits, name_fits}
use Rattle.listing_laws.proofs.InsnFits.{operands_append, signed8, signed16, signed32, signed64}
use Rattle.listing_laws.proofs.CodeRules.{code_fits}
use Rattle.listing_laws.proofs.OrderRules.{keys_sorted}
use Rattle.dex_base.proofs.ListFacts.{all_front, all_back}

names_of : (ns : List Name) → AllByRecursion IsValidName ns → AllByRecursion NameInRange ns → AllByRecursion IsNamed ns
names_of [] v r = tt
names_of (n ∷ ns) v r = ((v.0, r.0), names_of ns v.1 r.1)

-- ---- values

named_fits : (n : Name) → IsNamed n → FitOperands (value_operands (content.Named n))
named_fits (OfText us) w = (refl, (name_fits (OfText us) w, tt))
named_fits n w = (refl, (name_fits n w, tt))

mutual
  value_fits : (v : Value) → ValueInRange v → AllByRecursion IsNamed (names_of_value v) → FitOperands (value_operands v)
  value_fits (content.Byte z) r w = (refl, (signed8 z r, tt))
  value_fits (content.Short z) r w = (refl, (signed16 z r, tt))
  value_fits (content.Char n) r w = (refl, ((omega arith, omega arith), tt))
  value_fits (content.Int z) r w = (refl, (signed32 z r, tt))
  value_fits (content.Long z) r w = (refl, (signed64 z r, tt))
  value_fits (content.Named n) r w = named_fits n w.0
  value_fits (content.Enum f) r w = (refl, (name_fits (OfField f) w.0, tt))
  value_fits (content.Array vs) r w = (refl, (refl, operands_append (values_operands vs) (keyword key.Close ∷ []) (values_fit vs r w) (refl, tt)))
  value_fits content.Null r w = (refl, tt)
  value_fits (content.Boolean b) r w = (refl, tt)
  value_fits _ r w = (refl, (r, tt))

  values_fit : (vs : Values) → ValuesInRange vs → AllByRecursion IsNamed (names_of_values vs) → FitOperands (values_operands vs)
  values_fit no_values r w = tt
  values_fit (more_values v vs) r w =
      let a = all_front IsNamed (names_of_value v) (names_of_values vs) w in
      let b = all_back IsNamed (names_of_value v) (names_of_values vs) w in
      operands_append (value_operands v) (values_operands vs) (value_fits v r.0 a) (values_fit vs r.1 b)

-- ---- members

field_fits : (class : Descriptor) (m : Member) → MemberInRange m → IsNamed (field_of_class class m) → FitOperands (member_operands m)
field_fits class m r w = ((w.0.name, w.1.name), ((w.0.ty.descriptor, w.1.ty), (r, tt)))

fields_fit : (class : Descriptor) (ms : List Member) → AllByRecursion MemberInRange ms → AllByRecursion IsNamed (map (field_of_class class) ms) → AllByRecursion FieldFits ms
fields_fit class [] r w = tt
fields_fit class (m ∷ ms) r w = (field_fits class m r.0 w.0, fields_fit class ms r.1 w.1)

givens_fit : (class : Descriptor) (ms : List Member) (vs : List Value) → AllByRecursion MemberInRange ms → AllByRecursion ValueInRange vs → AllByRecursion IsNamed (map (field_of_class class) ms) → AllByRecursion IsNamed (flat_map names_of_value vs)
    → AllByRecursion GivenFits (givens ms vs)
givens_fit class [] vs r s w n = tt
givens_fit class (m ∷ ms) [] r s w n = (field_fits class m r.0 w.0, givens_fit class ms [] r.1 s w.1 n)
givens_fit class (m ∷ ms) (v ∷ vs) r s w n =
    let a = all_front IsNamed (names_of_value v) (flat_map names_of_value vs) n in
    let b = all_back IsNamed (names_of_value v) (flat_map names_of_value vs) n in
    (operands_append (member_operands m) (keyword key.Equals ∷ value_operands v) (field_fits class m r.0 w.0) (refl, value_fits v s.0 a), givens_fit class ms vs r.1 s.1 w.1 b)

body_fits : (o : Option Code) → IfSome o IsFormed → AllByRecursion IsNamed (if_any names_of_code o) → BodyFits o
body_fits None f w = tt
body_fits (Some c) f w = code_fits c f w

method_fits : (class : Descriptor) (m : Method) → IfSome m.code IsFormed → DefinedInRange m → AllByRecursion IsNamed (names_of_method class m) → MethodFits m
method_fits class m f r w =
    let n = w.0 in
    (((n.0.name, n.1.name), (proto_fits m.proto n.0.proto n.1.proto, (r.flags, tt))), body_fits m.code f w.1)

methods_fit : (class : Descriptor) (ms : List Method) → AllByRecursion (λ m. IfSome m.code IsFormed) ms → AllByRecursion DefinedInRange ms → AllByRecursion IsNamed (flat_map (names_of_method class) ms) → AllByRecursion MethodFits ms
methods_fit class [] f r w = tt
methods_fit class (m ∷ ms) f r w =
    let a = all_front IsNamed (names_of_method class m) (flat_map (names_of_method class) ms) w in
    let b = all_back IsNamed (names_of_method class m) (flat_map (names_of_method class) ms) w in
    (method_fits class m f.0 r.0 a, methods_fit class ms f.1 r.1 b)

-- ---- heads

super_fits : (o : Option Descriptor) → AllByRecursion IsNamed (if_any (λ t. OfDesc t ∷ []) o) → SuperFits o
super_fits None w = tt
super_fits (Some d) w = (name_fits (OfDesc d) w.0, tt)

source_fits : (o : Option Units) → AllByRecursion IsNamed (if_any (λ s. OfText s ∷ []) o) → SourceFits o
source_fits None w = tt
source_fits (Some us) w = (name_fits (OfText us) w.0, tt)

interfaces_fit : (ds : List Descriptor) → AllByRecursion IsNamed (map OfDesc ds) → AllByRecursion InterfaceFits ds
interfaces_fit [] w = tt
interfaces_fit (d ∷ ds) w = ((name_fits (OfDesc d) w.0, tt), interfaces_fit ds w.1)

-- ---- classes

-- what a class mentions, part by part
record Mentioned (c : Class) : Type 0 where
  class : IsNamed (OfDesc c.ty)
  superclass : AllByRecursion IsNamed (if_any (λ t. OfDesc t ∷ []) c.superclass)
  interfaces : AllByRecursion IsNamed (map OfDesc c.interfaces)
  source : AllByRecursion IsNamed (if_any (λ s. OfText s ∷ []) c.source)
  statics : AllByRecursion IsNamed (map (field_of_class c.ty) c.statics)
  values : AllByRecursion IsNamed (flat_map names_of_value c.values)
  instances : AllByRecursion IsNamed (map (field_of_class c.ty) c.instances)
  directs : AllByRecursion IsNamed (flat_map (names_of_method c.ty) c.directs)
  virtuals : AllByRecursion IsNamed (flat_map (names_of_method c.ty) c.virtuals)

mentioned : (c : Class) → AllByRecursion IsNamed (names_of_class c) → Mentioned c
mentioned c w =
    let w7 = all_front IsNamed _ _ w.1 in
    let w6 = all_front IsNamed _ _ w7 in
    let w5 = all_front IsNamed _ _ w6 in
    let w4 = all_front IsNamed _ _ w5 in
    let w3 = all_front IsNamed _ _ w4 in
    let w2 = all_front IsNamed _ _ w3 in
    record {
      class = w.0;
      superclass = all_front IsNamed _ _ w2;
      interfaces = all_back IsNamed _ _ w2;
      source = all_back IsNamed _ _ w3;
      statics = all_back IsNamed _ _ w4;
      values = all_back IsNamed _ _ w5;
      instances = all_back IsNamed _ _ w6;
      directs = all_back IsNamed _ _ w7;
      virtuals = all_back IsNamed _ _ w.1;
    }

class_fits : (p : Program) (i : ℕ) (c : Class) → ClassHolds p i c → ClassInRange c → ClassFits c
class_fits p i c h r =
    let m = mentioned c (names_of (names_of_class c) h.names.all r.names) in
    let formed = class_formed c h.operands h.targets h.payloads h.tries h.registers r in
    record {
      head = (name_fits (OfDesc c.ty) m.class, (r.flags, tt));
      above = super_fits c.superclass m.superclass;
      interfaces = interfaces_fit c.interfaces m.interfaces;
      distinct = h.order.distinct;
      source = source_fits c.source m.source;
      statics = givens_fit c.ty c.statics c.values r.statics r.values m.statics m.values;
      values = h.values.few;
      statics_rise = keys_sorted (map member_key c.statics) h.members.statics;
      instances = fields_fit c.ty c.instances r.instances m.instances;
      instances_rise = keys_sorted (map member_key c.instances) h.members.instances;
      directs = methods_fit c.ty c.directs formed.directs r.directs m.directs;
      directs_rise = keys_sorted (map method_key c.directs) h.members.directs;
      virtuals = methods_fit c.ty c.virtuals formed.virtuals r.virtuals m.virtuals;
      virtuals_rise = keys_sorted (map method_key c.virtuals) h.members.virtuals;
    }

-- class by class
each_fits : (cs : List Class) → AllByRecursion ClassInRange cs → ((i : ℕ) (c : Class) → slice_get cs i ≡ Some c → ClassInRange c → ClassFits c) → IsPrintable cs
each_fits [] r h = tt
each_fits (c ∷ cs) r h = (h 0 c refl r.0, each_fits cs r.1 (λ i d e. h (suc i) d e))

pub printable : (p : Program) → WellFormed p → IsPrintable p
printable p h = each_fits p h.ranges (λ i c e. class_fits p i c (h.rules i c e))
