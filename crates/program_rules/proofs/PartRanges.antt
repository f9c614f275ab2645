-- The names of a class and of a body, put together from their parts.
use Rattle.std.proofs.Common.{◌<◌, ◌++◌, List, [], ◌∷◌, map, Option, Some, None}
use Rattle.std.specs.Prelude.{IfSome}
use Rattle.std.specs.List.{AllByRecursion, flat_map}
use Rattle.program_types.specs.Content.{Units, OfText, OfDesc, Value, Values, Named, Enum, Array, no_values, more_values, Try, Code, Member, Method, Class, AreUnits}
use Rattle.program_types.specs.Mentions.{if_any, names_of_value, names_of_values, names_of_insn, names_of_try, names_of_code, field_of_class, names_of_method, NamesHold, AllNamesHold}
use Rattle.program_rules.specs.Ranges.{ProtoInRange, NameInRange, ValueInRange, MemberInRange, CodeInRange, DefinedInRange, ClassInRange}
use Rattle.program_rules.proofs.AllLaws.{all-joined}
use Rattle.dex_base.proofs.ListFacts.{all_append, all_map, all_weaker}

-- What each part of a class is known to be.
pub record FieldFits (m : Member) : Type 0 where
  pub flags : MemberInRange m
  pub name : AreUnits m.name
  pub ty : AreUnits m.ty

abbrev pub ValueFits : Value → Type 0
ValueFits v = ValueInRange v × NamesHold NameInRange v

pub record CodeFits (c : Code) : Type 0 where
  pub counts : CodeInRange c
  pub names : AllByRecursion NameInRange (names_of_code c)

pub record MethodFits (m : Method) : Type 0 where
  pub flags : m.flags < 4294967296
  pub name : AreUnits m.name
  pub proto : ProtoInRange m.proto
  pub code : IfSome m.code CodeFits

mutual
  value-names : (v : Value) → NamesHold NameInRange v → AllByRecursion NameInRange (names_of_value v)
  value-names (Named which) h = (h, tt)
  value-names (Enum constant) h = (h, tt)
  value-names (Array vs) h = values-names vs h
  value-names _ h = tt

  values-names : (vs : Values) → AllNamesHold NameInRange vs → AllByRecursion NameInRange (names_of_values vs)
  values-names no_values h = tt
  values-names (more_values v vs) h = all_append NameInRange (names_of_value v) (names_of_values vs) (value-names v h.0) (values-names vs h.1)

try-names : (t : Try) → AllByRecursion (λ c. AreUnits c.ty) t.catches → AllByRecursion NameInRange (names_of_try t)
try-names t h = all_map NameInRange (λ c. OfDesc c.ty) t.catches h

pub code-names : (c : Code) → AllByRecursion (λ i. AllByRecursion NameInRange (names_of_insn i)) c.insns → AllByRecursion (λ t. AllByRecursion (λ c. AreUnits c.ty) t.catches) c.tries
    → AllByRecursion NameInRange (names_of_code c)
code-names c is ts = all_append NameInRange (flat_map names_of_insn c.insns) (flat_map names_of_try c.tries)
    (all-joined NameInRange names_of_insn c.insns is)
    (all-joined NameInRange names_of_try c.tries (all_weaker (λ t. AllByRecursion (λ c. AreUnits c.ty) t.catches) (λ t. AllByRecursion NameInRange (names_of_try t)) try-names c.tries ts))

body-counts : (o : Option Code) → IfSome o CodeFits → IfSome o CodeInRange
body-counts None h = tt
body-counts (Some c) h = h.counts

body-names : (o : Option Code) → IfSome o CodeFits → AllByRecursion NameInRange (if_any names_of_code o)
body-names None h = tt
body-names (Some c) h = h.names

method-numbers : (m : Method) → MethodFits m → DefinedInRange m
method-numbers m h = record { flags = h.flags; code = body-counts m.code h.code }

-- The parts of a class are in range.
pub record Parts (c : Class) : Type 0 where
  pub class : AreUnits c.ty
  pub flags : c.flags < 4294967296
  pub superclass : IfSome c.superclass AreUnits
  pub interfaces : AllByRecursion AreUnits c.interfaces
  pub source : IfSome c.source AreUnits
  pub statics : AllByRecursion FieldFits c.statics
  pub values : AllByRecursion ValueFits c.values
  pub instances : AllByRecursion FieldFits c.instances
  pub directs : AllByRecursion MethodFits c.directs
  pub virtuals : AllByRecursion MethodFits c.virtuals

above-names : (o : Option Units) → IfSome o AreUnits → AllByRecursion NameInRange (if_any (λ t. OfDesc t ∷ []) o)
above-names None h = tt
above-names (Some t) h = (h, tt)

source-names : (o : Option Units) → IfSome o AreUnits → AllByRecursion NameInRange (if_any (λ s. OfText s ∷ []) o)
source-names None h = tt
source-names (Some s) h = (h, tt)

fields-names : (t : Units) → AreUnits t → (ms : List Member) → AllByRecursion FieldFits ms → AllByRecursion NameInRange (map (field_of_class t) ms)
fields-names t h [] f = tt
fields-names t h (m ∷ ms) f = (record { class = h; name = f.0.name; ty = f.0.ty }, fields-names t h ms f.1)

values-names-of : (vs : List Value) → AllByRecursion ValueFits vs → AllByRecursion NameInRange (flat_map names_of_value vs)
values-names-of [] f = tt
values-names-of (v ∷ vs) f = all_append NameInRange (names_of_value v) (flat_map names_of_value vs) (value-names v f.0.1) (values-names-of vs f.1)

methods-names : (t : Units) → AreUnits t → (ms : List Method) → AllByRecursion MethodFits ms → AllByRecursion NameInRange (flat_map (names_of_method t) ms)
methods-names t h [] f = tt
methods-names t h (m ∷ ms) f = all_append NameInRange (names_of_method t m) (flat_map (names_of_method t) ms)
    (record { class = h; name = f.0.name; proto = f.0.proto }, body-names m.code f.0.code) (methods-names t h ms f.1)

pub class-whole : (c : Class) → Parts c → ClassInRange c
class-whole c p =
    let P = NameInRange in
    let in_fields = λ (ms : List Member) (f : AllByRecursion FieldFits ms). all_weaker FieldFits MemberInRange (λ m h. h.flags) ms f in
    let in_methods = λ (ms : List Method) (f : AllByRecursion MethodFits ms). all_weaker MethodFits DefinedInRange method-numbers ms f in
    let a1 = if_any (λ t. OfDesc t ∷ []) c.superclass in
    let a2 = map OfDesc c.interfaces in
    let a3 = if_any (λ s. OfText s ∷ []) c.source in
    let a4 = map (field_of_class c.ty) c.statics in
    let a5 = flat_map names_of_value c.values in
    let a6 = map (field_of_class c.ty) c.instances in
    let a7 = flat_map (names_of_method c.ty) c.directs in
    let a8 = flat_map (names_of_method c.ty) c.virtuals in
    let h2 = all_append P a1 a2 (above-names c.superclass p.superclass) (all_map P OfDesc c.interfaces p.interfaces) in
    let h3 = all_append P (a1 ++ a2) a3 h2 (source-names c.source p.source) in
    let h4 = all_append P (a1 ++ a2 ++ a3) a4 h3 (fields-names c.ty p.class c.statics p.statics) in
    let h5 = all_append P (a1 ++ a2 ++ a3 ++ a4) a5 h4 (values-names-of c.values p.values) in
    let h6 = all_append P (a1 ++ a2 ++ a3 ++ a4 ++ a5) a6 h5 (fields-names c.ty p.class c.instances p.instances) in
    let h7 = all_append P (a1 ++ a2 ++ a3 ++ a4 ++ a5 ++ a6) a7 h6 (methods-names c.ty p.class c.directs p.directs) in
    let h8 = all_append P (a1 ++ a2 ++ a3 ++ a4 ++ a5 ++ a6 ++ a7) a8 h7 (methods-names c.ty p.class c.virtuals p.virtuals) in
    record {
      flags = p.flags;
      names = (p.class, h8);
      statics = in_fields c.statics p.statics;
      values = all_weaker ValueFits ValueInRange (λ v h. h.0) c.values p.values;
      instances = in_fields c.instances p.instances;
      directs = in_methods c.directs p.directs;
      virtuals = in_methods c.virtuals p.virtuals;
    }
