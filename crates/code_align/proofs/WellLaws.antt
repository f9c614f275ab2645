-- An aligned program is well formed as the program was.
use Rattle.std.proofs.Common.{◌≡◌, ℕ, zero, suc, ◌<◌, ◌≤◌, List, [], ◌∷◌, map, length, refl, sym, subst, Option, None, Some}
use Rattle.std.specs.Prelude.{IfSome}
use Rattle.std.specs.List.{AllByRecursion, slice_get}
use Rattle.code_align.specs.Programs.{Pairwise, AlignedMethod, AlignedClass, AlignedProgram}
use Rattle.code_align.proofs.NameLaws.{class_names}
use Rattle.code_align.proofs.PairLaws.{paired_maps, paired_all, partner_of}
use Rattle.dex_base.specs.Descriptor.{IsClass}
use Rattle.code_rules.proofs.OperandLaws.{formed_operands}
use Rattle.code_rules.specs.CodeRules.{OperandsHold, TargetsHold, PayloadsHold, TriesHold}
use Rattle.program_types.specs.Content.{Descriptor, Code, Method, Class, Program}
use Rattle.program_types.specs.Depth.{depth, most_depth}
use Rattle.program_types.specs.Formed.{IsFormed, RegistersHold}
use Rattle.program_rules.specs.Ranges.{NameInRange, ValueInRange, MemberInRange, CodeInRange, DefinedInRange, ClassInRange}
use Rattle.program_rules.specs.WellFormed.{WellFormed}
use Rattle.program_rules.specs.Rules.{NamesAreValid, KeysRise, MembersRise, AreDistinct, OrderHolds, ValuesFit, CodesHold, ClassHolds, member_key, method_key}
use Rattle.program_rules.specs.Valid.{IsValidName}
use Rattle.program_rules.proofs.FormedLaws.{class_formed}
use Rattle.dex_base.proofs.ListFacts.{all_weaker}
use Rattle.std.proofs.lemmas.Option.{IfSome_then}

-- ---- bodies that keep the rules are well formed, and the other way round

-- all bodies of methods
abbrev Bodies : (Code → Type 0) → List Method → Type 0
Bodies P ms = AllByRecursion (λ (m : Method). IfSome m.code P) ms

classes_formed : (p : List Class) → ((i : ℕ) (c : Class) → slice_get p i ≡ Some c → ClassInRange c → CodesHold IsFormed c) → AllByRecursion ClassInRange p → AllByRecursion (CodesHold IsFormed) p
classes_formed [] h r = tt
classes_formed (c ∷ cs) h r = (h 0 c refl r.0, classes_formed cs (λ i d e. h (suc i) d e) r.1)

pub program_formed : (p : Program) → WellFormed p → AllByRecursion (CodesHold IsFormed) p
program_formed p w =
    classes_formed p (λ i c e r. let h = w.rules i c e in class_formed c h.operands h.targets h.payloads h.tries h.registers r) w.ranges

pub codes_turned : (Q : Code → Type 0) → ((c : Code) → IsFormed c → Q c) → (c : Class) → CodesHold IsFormed c → CodesHold Q c
codes_turned Q h c f = record {
  directs = all_weaker (λ (m : Method). IfSome m.code IsFormed) (λ (m : Method). IfSome m.code Q) (λ m a. IfSome_then m.code {P = IsFormed} {Q = Q} a h) c.directs f.directs;
  virtuals = all_weaker (λ (m : Method). IfSome m.code IsFormed) (λ (m : Method). IfSome m.code Q) (λ m a. IfSome_then m.code {P = IsFormed} {Q = Q} a h) c.virtuals f.virtuals;
}

-- ---- ranges

body_range : (o : Option Code) → IfSome o IsFormed → IfSome o CodeInRange
body_range None f = tt
body_range (Some c) f = record { registers = f.registers; ins = f.ins; outs = f.outs }

method_range : (m n : Method) → AlignedMethod m n → DefinedInRange m → IfSome n.code IsFormed → DefinedInRange n
method_range m n a r f = record { flags = subst (λ z. z < 4294967296) (sym a.flags) r.flags; code = body_range n.code f }

methods_range : (ms ns : List Method) → Pairwise AlignedMethod ms ns → AllByRecursion DefinedInRange ms → Bodies IsFormed ns → AllByRecursion DefinedInRange ns
methods_range ms ns p r f = paired_all AlignedMethod DefinedInRange (λ (n : Method). IfSome n.code IsFormed) DefinedInRange method_range ms ns p r f

class_range : (c d : Class) → AlignedClass c d → ClassInRange c → CodesHold IsFormed d → ClassInRange d
class_range c d a r f = record {
  flags = subst (λ z. z < 4294967296) (sym a.flags) r.flags;
  names = subst (AllByRecursion NameInRange) (sym (class_names c d a)) r.names;
  statics = subst (AllByRecursion MemberInRange) (sym a.statics) r.statics;
  values = subst (AllByRecursion ValueInRange) (sym a.values) r.values;
  instances = subst (AllByRecursion MemberInRange) (sym a.instances) r.instances;
  directs = methods_range c.directs d.directs a.directs r.directs f.directs;
  virtuals = methods_range c.virtuals d.virtuals a.virtuals r.virtuals f.virtuals;
}

-- ---- rules

same_names : (c d : Class) → AlignedClass c d → NamesAreValid c → NamesAreValid d
same_names c d a h = record {
  all = subst (AllByRecursion IsValidName) (sym (class_names c d a)) h.all;
  class = subst IsClass (sym a.ty) h.class;
  superclass = subst (λ z. IfSome z IsClass) (sym a.superclass) h.superclass;
  interfaces = subst (AllByRecursion IsClass) (sym a.interfaces) h.interfaces;
}

same_key : (m n : Method) → AlignedMethod m n → method_key n ≡ method_key m
same_key m n a = λ i. method_key (record { name = a.name i; proto = a.proto i; flags = a.flags i; code = None })

methods_rise : (ms ns : List Method) → Pairwise AlignedMethod ms ns → KeysRise (map method_key ms) → KeysRise (map method_key ns)
methods_rise ms ns p h = subst KeysRise (sym (paired_maps AlignedMethod method_key same_key ms ns p)) h

same_order : (c d : Class) → AlignedClass c d → MembersRise c → MembersRise d
same_order c d a h = record {
  statics = subst (λ z. KeysRise (map member_key z)) (sym a.statics) h.statics;
  instances = subst (λ z. KeysRise (map member_key z)) (sym a.instances) h.instances;
  directs = methods_rise c.directs d.directs a.directs h.directs;
  virtuals = methods_rise c.virtuals d.virtuals a.virtuals h.virtuals;
}

-- no class from number i on, or before it, is of the type, where the classes are of these types
abbrev NoneFromOf : List Descriptor → ℕ → Descriptor → Type 0
NoneFromOf ts i t = (j : ℕ) → i ≤ j → ¬ (slice_get ts j ≡ Some t)

abbrev NoneBeforeOf : List Descriptor → ℕ → Descriptor → Type 0
NoneBeforeOf ts i t = (j : ℕ) → j < i → ¬ (slice_get ts j ≡ Some t)

same_place : (p q : Program) → map (λ (c : Class). c.ty) q ≡ map (λ (c : Class). c.ty) p → (i : ℕ) (c d : Class) → AlignedClass c d → OrderHolds p i c → OrderHolds q i d
same_place p q e i c d a h = record {
  once = subst (λ z. NoneBeforeOf z i d.ty) (sym e) (subst (NoneBeforeOf (map (λ (c : Class). c.ty) p) i) (sym a.ty) h.once);
  superclass = subst (λ z. IfSome d.superclass (NoneFromOf z i)) (sym e) (subst (λ z. IfSome z (NoneFromOf (map (λ (c : Class). c.ty) p) i)) (sym a.superclass) h.superclass);
  interfaces = subst (λ z. AllByRecursion (NoneFromOf z i) d.interfaces) (sym e) (subst (AllByRecursion (NoneFromOf (map (λ (c : Class). c.ty) p) i)) (sym a.interfaces) h.interfaces);
  distinct = subst AreDistinct (sym a.interfaces) h.distinct;
}

same_values : (c d : Class) → AlignedClass c d → ValuesFit c → ValuesFit d
same_values c d a h = record {
  few = subst (λ z. length d.values ≤ length z) (sym a.statics) (subst (λ z. length z ≤ length c.statics) (sym a.values) h.few);
  deep = subst (AllByRecursion (λ v. depth v ≤ most_depth)) (sym a.values) h.deep;
}

class_rules : (p q : Program) → map (λ (c : Class). c.ty) q ≡ map (λ (c : Class). c.ty) p → (i : ℕ) (c d : Class) → AlignedClass c d → ClassHolds p i c → CodesHold IsFormed d → ClassHolds q i d
class_rules p q e i c d a h f = record {
  names = same_names c d a h.names;
  members = same_order c d a h.members;
  order = same_place p q e i c d a h.order;
  values = same_values c d a h.values;
  operands = codes_turned OperandsHold (λ k g. formed_operands k g) d f;
  targets = codes_turned TargetsHold (λ k g. g.targets) d f;
  payloads = codes_turned PayloadsHold (λ k g. g.payloads) d f;
  tries = codes_turned TriesHold (λ k g. g.tries) d f;
  registers = codes_turned RegistersHold (λ k g. g.named) d f;
}

item_of : {A : Type 0} (P : A → Type 0) (xs : List A) (i : ℕ) (x : A) → slice_get xs i ≡ Some x → AllByRecursion P xs → P x
item_of P [] i x e h = absurd cc
item_of P (y ∷ ys) zero x e h = let same : y ≡ x = cc in subst P same h.0
item_of P (y ∷ ys) (suc i) x e h = item_of P ys i x e h.1

pub aligned_well : (p q : Program) → WellFormed p → AlignedProgram p q → AllByRecursion (CodesHold IsFormed) q → WellFormed q
aligned_well p q w a f = record {
  ranges = paired_all AlignedClass ClassInRange (CodesHold IsFormed) ClassInRange class_range p q a w.ranges f;
  rules = λ i d e. let r = partner_of AlignedClass p q a i d e in
      class_rules p q (paired_maps AlignedClass (λ (c : Class). c.ty) (λ c d k. k.ty) p q a) i r.item d r.related (w.rules i r.item r.there) (item_of (CodesHold IsFormed) q i d e f);
}
