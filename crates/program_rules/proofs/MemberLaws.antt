-- Keys by their numbers, and the names of a class part by part.
use Rattle.std.proofs.Common.{◌≡◌, ℕ, ◌+◌, ◌<◌, ◌++◌, List, [], ◌∷◌, map, length, get_or, sym, ◌∙◌, arith, Option, Some, None, inl}
use Rattle.std.specs.Prelude.{IfSome, ◌↔◌}
use Rattle.std.specs.List.{AllByRecursion, flat_map}
use Rattle.std.specs.declared.cmp.Ordering.{Ordering}
use Rattle.std.specs.declared.cmp.Ordering.TheVariants.{Less}
use Rattle.std.proofs.lemmas.List.{get_or-map, length-map}
use Rattle.dex_base.specs.Descriptor.{IsClass, IsDescriptor}
use Rattle.dex_base.proofs.DescriptorLaws.{class_is_descriptor}
use Rattle.program_types.specs.Content.{Descriptor, Units, Name, OfText, OfDesc, Value, Values, Named, Enum, Array, no_values, more_values, Code, Member, Method, Class}
use Rattle.program_types.specs.Key.{Key, key_cmp}
use Rattle.program_types.specs.Mentions.{if_any, names_of_value, names_of_values, names_of_code, field_of_class, names_of_method, NamesHold, AllNamesHold}
use Rattle.program_rules.specs.Valid.{IsValidName}
use Rattle.program_rules.specs.Rules.{IsBelowNext, NamesAreValid}
use Rattle.program_rules.specs.inner.Parts.{FieldIsValid, MethodIsValid}
use Rattle.program_rules.proofs.AllLaws.{all-lists, all-joined, all-made}
use Rattle.dex_base.proofs.ListFacts.{all_front, all_back, all_append, all_map, all_weaker}

-- ---- keys

pub key-at : {A B : Type 0} (g : B → Key) (f : A → B) (xs : List A) (k : ℕ) (d : A) → k < length xs → get_or (map g (map f xs)) k [] ≡ g (f (get_or xs k d))
key-at g f xs k d l = let n = length-map xs f in get_or-map g (map f xs) k (f d) [] (omega arith) ∙ λ i. g (get_or-map f xs k d (f d) l i)

pub below-next : (keys : List Key) (k : ℕ) (x y : Key) (o : Ordering) → get_or keys k [] ≡ x → get_or keys (k + 1) [] ≡ y → o ≡ key_cmp x y → (o ≡ Less) ↔ IsBelowNext keys k
below-next keys k x y o e f h =
    let same : key_cmp (get_or keys k []) (get_or keys (k + 1) []) ≡ o = (λ i. key_cmp (e i) (f i)) ∙ sym h in (
      λ t. same ∙ t,
      λ b. sym same ∙ b,
    )

-- ---- names in values

mutual
  value-names : (v : Value) → NamesHold IsValidName v → AllByRecursion IsValidName (names_of_value v)
  value-names (Named which) h = (h, tt)
  value-names (Enum constant) h = (h, tt)
  value-names (Array vs) h = values-names vs h
  value-names _ h = tt

  values-names : (vs : Values) → AllNamesHold IsValidName vs → AllByRecursion IsValidName (names_of_values vs)
  values-names no_values h = tt
  values-names (more_values v vs) h = all_append IsValidName (names_of_value v) (names_of_values vs) (value-names v h.0) (values-names vs h.1)

mutual
  names-value : (v : Value) → AllByRecursion IsValidName (names_of_value v) → NamesHold IsValidName v
  names-value (Named which) h = h.0
  names-value (Enum constant) h = h.0
  names-value (Array vs) h = names-values vs h
  names-value _ h = tt

  names-values : (vs : Values) → AllByRecursion IsValidName (names_of_values vs) → AllNamesHold IsValidName vs
  names-values no_values h = tt
  names-values (more_values v vs) h = (names-value v (all_front IsValidName (names_of_value v) (names_of_values vs) h), names-values vs (all_back IsValidName (names_of_value v) (names_of_values vs) h))

-- ---- members

field-own : (class : Descriptor) (m : Member) → IsValidName (field_of_class class m) → FieldIsValid m
field-own class m h = record { name = h.name; ty = h.ty }

field-whole : (class : Descriptor) → IsClass class → (m : Member) → FieldIsValid m → IsValidName (field_of_class class m)
field-whole class is m h = record { class = is; name = h.name; ty = h.ty }

body-own : (o : Option Code) → AllByRecursion IsValidName (if_any names_of_code o) → IfSome o (λ c. AllByRecursion IsValidName (names_of_code c))
body-own None h = tt
body-own (Some c) h = h

body-whole : (o : Option Code) → IfSome o (λ c. AllByRecursion IsValidName (names_of_code c)) → AllByRecursion IsValidName (if_any names_of_code o)
body-whole None h = tt
body-whole (Some c) h = h

method-own : (class : Descriptor) (m : Method) → AllByRecursion IsValidName (names_of_method class m) → MethodIsValid m
method-own class m h = record { name = h.0.name; proto = h.0.proto; body = body-own m.code h.1 }

method-whole : (class : Descriptor) → IsClass class → (m : Method) → MethodIsValid m → AllByRecursion IsValidName (names_of_method class m)
method-whole class is m h = (record { class = inl is; name = h.name; proto = h.proto }, body-whole m.code h.body)

-- ---- a class

-- what is asked of the names of a class, part by part
pub record Parts (c : Class) : Type 0 where
  pub class : IsClass c.ty
  pub superclass : IfSome c.superclass IsClass
  pub interfaces : AllByRecursion IsClass c.interfaces
  pub statics : AllByRecursion FieldIsValid c.statics
  pub values : AllByRecursion (NamesHold IsValidName) c.values
  pub instances : AllByRecursion FieldIsValid c.instances
  pub directs : AllByRecursion MethodIsValid c.directs
  pub virtuals : AllByRecursion MethodIsValid c.virtuals

above-whole : (o : Option Descriptor) → IfSome o IsClass → AllByRecursion IsValidName (if_any (λ t. OfDesc t ∷ []) o)
above-whole None h = tt
above-whole (Some t) h = ((class_is_descriptor t h).0, tt)

source-whole : (o : Option Units) → AllByRecursion IsValidName (if_any (λ s. OfText s ∷ []) o)
source-whole None = tt
source-whole (Some s) = (tt, tt)

fields-own : (class : Descriptor) (ms : List Member) → AllByRecursion IsValidName (map (field_of_class class) ms) → AllByRecursion FieldIsValid ms
fields-own class ms h = all_weaker (λ m. IsValidName (field_of_class class m)) FieldIsValid (field-own class) ms (all-made IsValidName (field_of_class class) ms h)

fields-whole : (class : Descriptor) → IsClass class → (ms : List Member) → AllByRecursion FieldIsValid ms → AllByRecursion IsValidName (map (field_of_class class) ms)
fields-whole class is ms h = all_map IsValidName (field_of_class class) ms (all_weaker FieldIsValid (λ m. IsValidName (field_of_class class m)) (field-whole class is) ms h)

methods-own : (class : Descriptor) (ms : List Method) → AllByRecursion IsValidName (flat_map (names_of_method class) ms) → AllByRecursion MethodIsValid ms
methods-own class ms h = all_weaker (λ m. AllByRecursion IsValidName (names_of_method class m)) MethodIsValid (method-own class) ms (all-lists IsValidName (names_of_method class) ms h)

methods-whole : (class : Descriptor) → IsClass class → (ms : List Method) → AllByRecursion MethodIsValid ms → AllByRecursion IsValidName (flat_map (names_of_method class) ms)
methods-whole class is ms h = all-joined IsValidName (names_of_method class) ms (all_weaker MethodIsValid (λ m. AllByRecursion IsValidName (names_of_method class m)) (method-whole class is) ms h)

interfaces-whole : (ts : List Descriptor) → AllByRecursion IsClass ts → AllByRecursion IsValidName (map OfDesc ts)
interfaces-whole ts h = all_map IsValidName OfDesc ts (all_weaker IsClass IsDescriptor (λ t is. (class_is_descriptor t is).0) ts h)

-- the parts of the names of a class, in their order after its type and superclass
abbrev front_names : Class → List Name
front_names c = if_any (λ t. OfDesc t ∷ []) c.superclass ++ map OfDesc c.interfaces ++ if_any (λ s. OfText s ∷ []) c.source

pub class-parts : (c : Class) → NamesAreValid c → Parts c
class-parts c h =
    let P = IsValidName in
    let v8 = flat_map (names_of_method c.ty) c.virtuals in
    let v7 = flat_map (names_of_method c.ty) c.directs in
    let v6 = map (field_of_class c.ty) c.instances in
    let v5 = flat_map names_of_value c.values in
    let v4 = map (field_of_class c.ty) c.statics in
    let f4 = front_names c ++ v4 in
    let f5 = f4 ++ v5 in
    let f6 = f5 ++ v6 in
    let f7 = f6 ++ v7 in
    let h8 = h.all.1 in
    let h7 = all_front P f7 v8 h8 in
    let h6 = all_front P f6 v7 h7 in
    let h5 = all_front P f5 v6 h6 in
    let h4 = all_front P f4 v5 h5 in
    record {
      class = h.class;
      superclass = h.superclass;
      interfaces = h.interfaces;
      statics = fields-own c.ty c.statics (all_back P (front_names c) v4 h4);
      values = all_weaker (λ v. AllByRecursion P (names_of_value v)) (NamesHold P) names-value c.values (all-lists P names_of_value c.values (all_back P f4 v5 h5));
      instances = fields-own c.ty c.instances (all_back P f5 v6 h6);
      directs = methods-own c.ty c.directs (all_back P f6 v7 h7);
      virtuals = methods-own c.ty c.virtuals (all_back P f7 v8 h8);
    }

pub class-whole : (c : Class) → Parts c → NamesAreValid c
class-whole c p =
    let P = IsValidName in
    let v8 = flat_map (names_of_method c.ty) c.virtuals in
    let v7 = flat_map (names_of_method c.ty) c.directs in
    let v6 = map (field_of_class c.ty) c.instances in
    let v5 = flat_map names_of_value c.values in
    let v4 = map (field_of_class c.ty) c.statics in
    let a = if_any (λ t. OfDesc t ∷ []) c.superclass in
    let b = map OfDesc c.interfaces in
    let s = if_any (λ s. OfText s ∷ []) c.source in
    let f3 = all_append P (a ++ b) s (all_append P a b (above-whole c.superclass p.superclass) (interfaces-whole c.interfaces p.interfaces)) (source-whole c.source) in
    let f4 = all_append P (front_names c) v4 f3 (fields-whole c.ty p.class c.statics p.statics) in
    let f5 = all_append P (front_names c ++ v4) v5 f4 (all-joined P names_of_value c.values (all_weaker (NamesHold P) (λ v. AllByRecursion P (names_of_value v)) value-names c.values p.values)) in
    let f6 = all_append P (front_names c ++ v4 ++ v5) v6 f5 (fields-whole c.ty p.class c.instances p.instances) in
    let f7 = all_append P (front_names c ++ v4 ++ v5 ++ v6) v7 f6 (methods-whole c.ty p.class c.directs p.directs) in
    let f8 = all_append P (front_names c ++ v4 ++ v5 ++ v6 ++ v7) v8 f7 (methods-whole c.ty p.class c.virtuals p.virtuals) in
    record {
      all = ((class_is_descriptor c.ty p.class).0, f8);
      class = p.class;
      superclass = p.superclass;
      interfaces = p.interfaces;
    }
