-- The names of a class, part by part.
use Rattle.std.proofs.Common.{◌≡◌, List, [], ◌∷◌, ◌++◌, Option, None, Some, map, refl, sym, ap, ◌∙◌, subst}
use Rattle.std.specs.List.{AllByRecursion, flat_map}
use Rattle.file_needed.specs.inner.Bodies.{caught_in_body, named_in_body, named_in_class, named_in_code, other_names, own_names}
use Rattle.tables_names.specs.Closure.{Five, AreRising, IsClosed, method_of_class, with_names}
use Rattle.tables_names.proofs.NeededLemmas.{names_append, same_names}
use Rattle.program_types.specs.Content as content
use Rattle.program_types.specs.Content.{Name, OfText, OfDesc, values}
use Rattle.program_types.specs.Mentions.{names_of_value, names_of_values, names_of_class, names_of_code, names_of_insn, names_of_method, names_of_try, field_of_class, if_any, mentions}
use Rattle.dex_base.proofs.ListFacts.{all_append, all_front, all_back}

-- all that a method's body names
abbrev names_of_body : content.Method → List Name
names_of_body m = if_any names_of_code m.code

pub next : (s a b : Five) (xs ys : List Name) → a ≡ with_names s xs → b ≡ with_names a ys → b ≡ with_names s (xs ++ ys)
next s a b xs ys e f = f ∙ ap (λ q. with_names q ys) e ∙ sym (names_append s xs ys)

pub values_flat : (vs : List content.Value) → names_of_values (values vs) ≡ flat_map names_of_value vs
values_flat [] = refl
values_flat (v ∷ vs) = ap (λ l. names_of_value v ++ l) (values_flat vs)

-- the parts of a class's names
abbrev pub part1 : content.Class → List Name
part1 c = OfDesc c.ty ∷ if_any (λ t. OfDesc t ∷ []) c.superclass

abbrev pub part4 : content.Class → List Name
part4 c = part1 c ++ map OfDesc c.interfaces ++ if_any (λ t. OfText t ∷ []) c.source ++ map (field_of_class c.ty) c.statics

abbrev pub part6 : content.Class → List Name
part6 c = part4 c ++ flat_map names_of_value c.values ++ map (field_of_class c.ty) c.instances

abbrev pub part7 : content.Class → List Name
part7 c = part6 c ++ flat_map (names_of_method c.ty) c.directs

pub values_kept : (P : Name → Type 0) (c : content.Class) → AllByRecursion P (names_of_class c) → AllByRecursion P (names_of_values (values c.values))
values_kept P c h =
    let h7 = all_front P (part7 c) (flat_map (names_of_method c.ty) c.virtuals) h in
    let h6 = all_front P (part6 c) (flat_map (names_of_method c.ty) c.directs) h7 in
    let h5 = all_front P (part4 c ++ flat_map names_of_value c.values) (map (field_of_class c.ty) c.instances) h6 in
    subst (AllByRecursion P) (sym (values_flat c.values)) (all_back P (part4 c) (flat_map names_of_value c.values) h5)

pub directs_kept : (P : Name → Type 0) (c : content.Class) → AllByRecursion P (names_of_class c) → AllByRecursion P (flat_map (names_of_method c.ty) c.directs)
directs_kept P c h = all_back P (part6 c) (flat_map (names_of_method c.ty) c.directs) (all_front P (part7 c) (flat_map (names_of_method c.ty) c.virtuals) h)

pub virtuals_kept : (P : Name → Type 0) (c : content.Class) → AllByRecursion P (names_of_class c) → AllByRecursion P (flat_map (names_of_method c.ty) c.virtuals)
virtuals_kept P c h = all_back P (part7 c) (flat_map (names_of_method c.ty) c.virtuals) h

-- the parts of a class's names, one by one
pub interfaces_named : (P : Name → Type 0) (c : content.Class) → AllByRecursion P (names_of_class c) → AllByRecursion P (map OfDesc c.interfaces)
interfaces_named P c h =
    let h4 = all_front P (part4 c) (flat_map names_of_value c.values) (all_front P (part4 c ++ flat_map names_of_value c.values) (map (field_of_class c.ty) c.instances) (all_front P (part6 c) (flat_map (names_of_method c.ty) c.directs) (all_front P (part7 c) (flat_map (names_of_method c.ty) c.virtuals) h))) in
    let h3 = all_front P (part1 c ++ map OfDesc c.interfaces ++ if_any (λ t. OfText t ∷ []) c.source) (map (field_of_class c.ty) c.statics) h4 in
    all_back P (part1 c) (map OfDesc c.interfaces) (all_front P (part1 c ++ map OfDesc c.interfaces) (if_any (λ t. OfText t ∷ []) c.source) h3)

-- a class's type and its superclass
pub type_named : (P : Name → Type 0) (c : content.Class) → AllByRecursion P (names_of_class c) → AllByRecursion P (OfDesc c.ty ∷ if_any (λ t. OfDesc t ∷ []) c.superclass)
type_named P c h =
    let h4 = all_front P (part4 c) (flat_map names_of_value c.values) (all_front P (part4 c ++ flat_map names_of_value c.values) (map (field_of_class c.ty) c.instances) (all_front P (part6 c) (flat_map (names_of_method c.ty) c.directs) (all_front P (part7 c) (flat_map (names_of_method c.ty) c.virtuals) h))) in
    let h3 = all_front P (part1 c ++ map OfDesc c.interfaces ++ if_any (λ t. OfText t ∷ []) c.source) (map (field_of_class c.ty) c.statics) h4 in
    all_front P (part1 c) (map OfDesc c.interfaces) (all_front P (part1 c ++ map OfDesc c.interfaces) (if_any (λ t. OfText t ∷ []) c.source) h3)

-- its source file
pub source_named : (P : Name → Type 0) (c : content.Class) → AllByRecursion P (names_of_class c) → AllByRecursion P (if_any (λ t. OfText t ∷ []) c.source)
source_named P c h =
    let h4 = all_front P (part4 c) (flat_map names_of_value c.values) (all_front P (part4 c ++ flat_map names_of_value c.values) (map (field_of_class c.ty) c.instances) (all_front P (part6 c) (flat_map (names_of_method c.ty) c.directs) (all_front P (part7 c) (flat_map (names_of_method c.ty) c.virtuals) h))) in
    all_back P (part1 c ++ map OfDesc c.interfaces) (if_any (λ t. OfText t ∷ []) c.source) (all_front P (part1 c ++ map OfDesc c.interfaces ++ if_any (λ t. OfText t ∷ []) c.source) (map (field_of_class c.ty) c.statics) h4)

-- its fields
pub statics_named : (P : Name → Type 0) (c : content.Class) → AllByRecursion P (names_of_class c) → AllByRecursion P (map (field_of_class c.ty) c.statics)
statics_named P c h =
    let h4 = all_front P (part4 c) (flat_map names_of_value c.values) (all_front P (part4 c ++ flat_map names_of_value c.values) (map (field_of_class c.ty) c.instances) (all_front P (part6 c) (flat_map (names_of_method c.ty) c.directs) (all_front P (part7 c) (flat_map (names_of_method c.ty) c.virtuals) h))) in
    all_back P (part1 c ++ map OfDesc c.interfaces ++ if_any (λ t. OfText t ∷ []) c.source) (map (field_of_class c.ty) c.statics) h4

pub instances_named : (P : Name → Type 0) (c : content.Class) → AllByRecursion P (names_of_class c) → AllByRecursion P (map (field_of_class c.ty) c.instances)
instances_named P c h = all_back P (part4 c ++ flat_map names_of_value c.values) (map (field_of_class c.ty) c.instances) (all_front P (part6 c) (flat_map (names_of_method c.ty) c.directs) (all_front P (part7 c) (flat_map (names_of_method c.ty) c.virtuals) h))

-- ---- as they are added: other names, then what instructions name, and members last

module _ (P : Name → Type 0) where
  body_apart : (m : content.Method) → AllByRecursion P (names_of_body m) → AllByRecursion P (caught_in_body m) × AllByRecursion P (named_in_body m)
  body_apart m h = code_apart m.code h
    where
      code_apart : (o : Option content.Code) → AllByRecursion P (if_any names_of_code o) → AllByRecursion P (if_any (λ c. flat_map names_of_try c.tries) o) × AllByRecursion P (if_any (λ c. flat_map names_of_insn c.insns) o)
      code_apart None h = (tt, tt)
      code_apart (Some c) h = (all_back P (flat_map names_of_insn c.insns) (flat_map names_of_try c.tries) h, all_front P (flat_map names_of_insn c.insns) (flat_map names_of_try c.tries) h)

  body_together : (m : content.Method) → AllByRecursion P (caught_in_body m) → AllByRecursion P (named_in_body m) → AllByRecursion P (names_of_body m)
  body_together m caught named = code_together m.code caught named
    where
      code_together : (o : Option content.Code) → AllByRecursion P (if_any (λ c. flat_map names_of_try c.tries) o) → AllByRecursion P (if_any (λ c. flat_map names_of_insn c.insns) o) → AllByRecursion P (if_any names_of_code o)
      code_together None caught named = tt
      code_together (Some c) caught named = all_append P (flat_map names_of_insn c.insns) (flat_map names_of_try c.tries) named caught

  module _ (class : content.Descriptor) where
    pub methods_apart : (ms : List content.Method) → AllByRecursion P (flat_map (names_of_method class) ms) → AllByRecursion P (map (method_of_class class) ms) × AllByRecursion P (flat_map caught_in_body ms) × AllByRecursion P (flat_map named_in_body ms)
    methods_apart [] h = (tt, tt, tt)
    methods_apart (m ∷ ms) h =
        let rest = methods_apart ms (all_back P (names_of_body m) (flat_map (names_of_method class) ms) h.1) in
        let body = body_apart m (all_front P (names_of_body m) (flat_map (names_of_method class) ms) h.1) in
        ((h.0, rest.0), all_append P (caught_in_body m) (flat_map caught_in_body ms) body.0 rest.1, all_append P (named_in_body m) (flat_map named_in_body ms) body.1 rest.2)

    methods_together : (ms : List content.Method) → AllByRecursion P (map (method_of_class class) ms) → AllByRecursion P (flat_map caught_in_body ms) → AllByRecursion P (flat_map named_in_body ms) → AllByRecursion P (flat_map (names_of_method class) ms)
    methods_together [] own caught named = tt
    methods_together (m ∷ ms) own caught named =
        let rest = methods_together ms own.1 (all_back P (caught_in_body m) (flat_map caught_in_body ms) caught) (all_back P (named_in_body m) (flat_map named_in_body ms) named) in
        let body = body_together m (all_front P (caught_in_body m) (flat_map caught_in_body ms) caught) (all_front P (named_in_body m) (flat_map named_in_body ms) named) in
        (own.0, all_append P (names_of_body m) (flat_map (names_of_method class) ms) body rest)

-- the parts of the other names of a class
abbrev others3 : content.Class → List Name
others3 c = if_any (λ t. OfDesc t ∷ []) c.superclass ++ map OfDesc c.interfaces ++ if_any (λ t. OfText t ∷ []) c.source

abbrev others5 : content.Class → List Name
others5 c = others3 c ++ flat_map names_of_value c.values ++ flat_map caught_in_body c.directs

-- the members of a class, but for the virtual methods
abbrev members3 : content.Class → List Name
members3 c = map (field_of_class c.ty) c.statics ++ map (field_of_class c.ty) c.instances ++ map (method_of_class c.ty) c.directs

module _ (P : Name → Type 0) (c : content.Class) where
  -- what the instructions of the class name
  pub class_named : AllByRecursion P (names_of_class c) → AllByRecursion P (named_in_class c)
  class_named h =
      all_append P (flat_map named_in_body c.directs) (flat_map named_in_body c.virtuals) (methods_apart P c.ty c.directs (directs_kept P c h)).2 (methods_apart P c.ty c.virtuals (virtuals_kept P c h)).2

  -- its own type and its members
  class_own : AllByRecursion P (names_of_class c) → AllByRecursion P (own_names c)
  class_own h =
      let fields = all_append P (map (field_of_class c.ty) c.statics) (map (field_of_class c.ty) c.instances) (statics_named P c h) (instances_named P c h) in
      let three = all_append P (map (field_of_class c.ty) c.statics ++ map (field_of_class c.ty) c.instances) (map (method_of_class c.ty) c.directs) fields (methods_apart P c.ty c.directs (directs_kept P c h)).0 in
      ((type_named P c h).0, all_append P (members3 c) (map (method_of_class c.ty) c.virtuals) three (methods_apart P c.ty c.virtuals (virtuals_kept P c h)).0)

  -- each other name of the class is added
  class_there : AllByRecursion P (names_of_class c) → AllByRecursion P (other_names c)
  class_there h =
      let superclass = if_any (λ t. OfDesc t ∷ []) c.superclass in
      let interfaces = map OfDesc c.interfaces in
      let values = flat_map names_of_value c.values in
      let h6 = all_front P (part6 c) (flat_map (names_of_method c.ty) c.directs) (all_front P (part7 c) (flat_map (names_of_method c.ty) c.virtuals) h) in
      let h5 = all_front P (part4 c ++ values) (map (field_of_class c.ty) c.instances) h6 in
      let a2 = all_append P superclass interfaces (type_named P c h).1 (interfaces_named P c h) in
      let a3 = all_append P (superclass ++ interfaces) (if_any (λ t. OfText t ∷ []) c.source) a2 (source_named P c h) in
      let a4 = all_append P (others3 c) values a3 (all_back P (part4 c) values h5) in
      let a5 = all_append P (others3 c ++ values) (flat_map caught_in_body c.directs) a4 (methods_apart P c.ty c.directs (directs_kept P c h)).1 in
      all_append P (others5 c) (flat_map caught_in_body c.virtuals) a5 (methods_apart P c.ty c.virtuals (virtuals_kept P c h)).1

  -- and no other
  class_back : AllByRecursion P (other_names c) → AllByRecursion P (named_in_class c) → AllByRecursion P (own_names c) → AllByRecursion P (names_of_class c)
  class_back others named own =
      let superclass = if_any (λ t. OfDesc t ∷ []) c.superclass in
      let interfaces = map OfDesc c.interfaces in
      let source = if_any (λ t. OfText t ∷ []) c.source in
      let values = flat_map names_of_value c.values in
      let statics = map (field_of_class c.ty) c.statics in
      let instances = map (field_of_class c.ty) c.instances in
      let directs = map (method_of_class c.ty) c.directs in
      let o5 = all_front P (others5 c) (flat_map caught_in_body c.virtuals) others in
      let o4 = all_front P (others3 c ++ values) (flat_map caught_in_body c.directs) o5 in
      let o3 = all_front P (others3 c) values o4 in
      let o2 = all_front P (superclass ++ interfaces) source o3 in
      let m3 = all_front P (members3 c) (map (method_of_class c.ty) c.virtuals) own.1 in
      let m2 = all_front P (statics ++ instances) directs m3 in
      let n1 : AllByRecursion P (part1 c) = (own.0, all_front P superclass interfaces o2) in
      let n2 = all_append P (part1 c) interfaces n1 (all_back P superclass interfaces o2) in
      let n3 = all_append P (part1 c ++ interfaces) source n2 (all_back P (superclass ++ interfaces) source o3) in
      let n4 = all_append P (part1 c ++ interfaces ++ source) statics n3 (all_front P statics instances m2) in
      let n5 = all_append P (part4 c) values n4 (all_back P (others3 c) values o4) in
      let n6 = all_append P (part4 c ++ values) instances n5 (all_back P statics instances m2) in
      let direct_methods = methods_together P c.ty c.directs (all_back P (statics ++ instances) directs m3) (all_back P (others3 c ++ values) (flat_map caught_in_body c.directs) o5) (all_front P (flat_map named_in_body c.directs) (flat_map named_in_body c.virtuals) named) in
      let virtual_methods = methods_together P c.ty c.virtuals (all_back P (members3 c) (map (method_of_class c.ty) c.virtuals) own.1) (all_back P (others5 c) (flat_map caught_in_body c.virtuals) others) (all_back P (flat_map named_in_body c.directs) (flat_map named_in_body c.virtuals) named) in
      let n7 = all_append P (part6 c) (flat_map (names_of_method c.ty) c.directs) n6 direct_methods in
      all_append P (part7 c) (flat_map (names_of_method c.ty) c.virtuals) n7 virtual_methods

-- a class's other names are added part by part
pub class_names : (s s1 s2 s3 s4 s5 s6 : Five) (c : content.Class)
    → s1 ≡ with_names s (if_any (λ t. OfDesc t ∷ []) c.superclass) → s2 ≡ with_names s1 (map OfDesc c.interfaces)
    → s3 ≡ with_names s2 (if_any (λ t. OfText t ∷ []) c.source) → s4 ≡ with_names s3 (names_of_values (values c.values))
    → s5 ≡ with_names s4 (flat_map caught_in_body c.directs) → s6 ≡ with_names s5 (flat_map caught_in_body c.virtuals)
    → s6 ≡ with_names s (other_names c)
class_names s s1 s2 s3 s4 s5 s6 c e1 e2 e3 e4 e5 e6 =
    let superclass = if_any (λ t. OfDesc t ∷ []) c.superclass in
    let interfaces = map OfDesc c.interfaces in
    let values = flat_map names_of_value c.values in
    let p2 = next s s1 s2 superclass interfaces e1 e2 in
    let p3 = next s s2 s3 (superclass ++ interfaces) (if_any (λ t. OfText t ∷ []) c.source) p2 e3 in
    let p4 = next s s3 s4 (others3 c) values p3 (e4 ∙ ap (with_names s3) (values_flat c.values)) in
    let p5 = next s s4 s5 (others3 c ++ values) (flat_map caught_in_body c.directs) p4 e5 in
    next s s5 s6 (others5 c) (flat_map caught_in_body c.virtuals) p5 e6

-- ---- of all classes: those that are noted come last

module _ (P : Name → Type 0) where
  pub code_named : (cs : List content.Class) → AllByRecursion P (flat_map names_of_class cs) → AllByRecursion P (named_in_code cs)
  code_named [] h = tt
  code_named (c ∷ cs) h =
      all_append P (named_in_class c) (named_in_code cs) (class_named P c (all_front P (names_of_class c) (flat_map names_of_class cs) h)) (code_named cs (all_back P (names_of_class c) (flat_map names_of_class cs) h))

  pub all_own : (cs : List content.Class) → AllByRecursion P (flat_map names_of_class cs) → AllByRecursion P (flat_map own_names cs)
  all_own [] h = tt
  all_own (c ∷ cs) h =
      all_append P (own_names c) (flat_map own_names cs) (class_own P c (all_front P (names_of_class c) (flat_map names_of_class cs) h)) (all_own cs (all_back P (names_of_class c) (flat_map names_of_class cs) h))

  others_there : (cs : List content.Class) → AllByRecursion P (flat_map names_of_class cs) → AllByRecursion P (flat_map other_names cs)
  others_there [] h = tt
  others_there (c ∷ cs) h =
      all_append P (other_names c) (flat_map other_names cs) (class_there P c (all_front P (names_of_class c) (flat_map names_of_class cs) h)) (others_there cs (all_back P (names_of_class c) (flat_map names_of_class cs) h))

  classes_back : (cs : List content.Class) → AllByRecursion P (flat_map other_names cs) → AllByRecursion P (named_in_code cs) → AllByRecursion P (flat_map own_names cs) → AllByRecursion P (flat_map names_of_class cs)
  classes_back [] h named own = tt
  classes_back (c ∷ cs) h named own =
      let one = class_back P c (all_front P (other_names c) (flat_map other_names cs) h) (all_front P (named_in_class c) (named_in_code cs) named) (all_front P (own_names c) (flat_map own_names cs) own) in
      all_append P (names_of_class c) (flat_map names_of_class cs) one (classes_back cs (all_back P (other_names c) (flat_map other_names cs) h) (all_back P (named_in_class c) (named_in_code cs) named) (all_back P (own_names c) (flat_map own_names cs) own))

pub all_names : (s : Five) (cs : List content.Class) (others coded all : Five) → IsClosed s → AreRising s → others ≡ with_names s (flat_map other_names cs) → coded ≡ with_names others (named_in_code cs) → all ≡ with_names coded (flat_map own_names cs) → all ≡ with_names s (mentions cs)
all_names s cs others coded all closed up e f g =
    let A = flat_map other_names cs in
    let B = named_in_code cs in
    let D = flat_map own_names cs in
    next s coded all (A ++ B) D (next s others coded A B e f) g
    ∙ same_names s (A ++ B ++ D) (mentions cs) closed up (λ P h. classes_back P cs (all_front P A B (all_front P (A ++ B) D h)) (all_back P A B (all_front P (A ++ B) D h)) (all_back P (A ++ B) D h)) (λ P h. all_append P (A ++ B) D (all_append P A B (others_there P cs h) (code_named P cs h)) (all_own P cs h))
