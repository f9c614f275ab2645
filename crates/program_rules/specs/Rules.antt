-- The rules that a program keeps, class by class, in the order of their faults.
-- Page: "Dalvik Executable format": class_def_item, class_data_item, encoded_array, code_item.
use Rattle.std.specs.Prelude.{◌≡◌, ◌≢◌, ℕ, ◌+◌, ◌<◌, ◌≤◌, List, [], ◌∷◌, length, map, slice_index_or, Some, IfSome}
use Rattle.std.specs.List.{AllByRecursion, slice_get}
use Rattle.std.specs.declared.cmp.Ordering.TheVariants.{Less}
use Rattle.dex_base.specs.Descriptor.{IsClass}
use Rattle.dex_base.specs.FirstFault.{or_else, FirstEntry}
use Rattle.dex_base.specs.declared.fault.Fault.{Fault}
use Rattle.program_types.specs.Content.{Descriptor, Code, Member, Method, Class, Program}
use Rattle.program_types.specs.Depth.{depth, most_depth}
use Rattle.program_types.specs.Formed.{RegistersHold}
use Rattle.program_types.specs.Key.{Key, key_cmp, proto_key}
use Rattle.program_types.specs.Mentions.{names_of_class}
use Rattle.code_rules.specs.CodeRules.{OperandsHold, TargetsHold, PayloadsHold, TriesHold}
use Rattle.program_rules.specs.Valid.{IsValidName}

-- ---- names (110)

-- All names in the class are ones that a file can have, and it, its superclass and its interfaces are class types.
pub record NamesAreValid (c : Class) : Type 0 where
  pub all : AllByRecursion IsValidName (names_of_class c)
  pub class : IsClass c.ty
  pub superclass : IfSome c.superclass IsClass
  pub interfaces : AllByRecursion IsClass c.interfaces

-- ---- the order of members (111)

-- fields by name, then type
abbrev pub member_key : Member → Key
member_key m = m.name ∷ m.ty ∷ []

-- methods by name, then prototype
abbrev pub method_key : Method → Key
method_key m = m.name ∷ proto_key m.proto

-- Key k is below the next one.
abbrev pub IsBelowNext : List Key → ℕ → Type 0
IsBelowNext keys k = key_cmp (slice_index_or keys k []) (slice_index_or keys (k + 1) []) ≡ Less

-- The keys strictly rise.
abbrev pub KeysRise : List Key → Type 0
KeysRise keys = (k : ℕ) → k + 1 < length keys → IsBelowNext keys k

-- The four lists of members strictly rise.
pub record MembersRise (c : Class) : Type 0 where
  pub statics : KeysRise (map member_key c.statics)
  pub instances : KeysRise (map member_key c.instances)
  pub directs : KeysRise (map method_key c.directs)
  pub virtuals : KeysRise (map method_key c.virtuals)

-- ---- the order of classes (112)

-- Class j is of this type.
abbrev pub IsOfType : Program → ℕ → Descriptor → Type 0
IsOfType p j t = slice_get (map (λ c. c.ty) p) j ≡ Some t

-- No class from number i on is.
abbrev pub NoneFrom : Program → ℕ → Descriptor → Type 0
NoneFrom p i t = (j : ℕ) → i ≤ j → ¬ IsOfType p j t

-- No class before number i is.
abbrev pub NoneBefore : Program → ℕ → Descriptor → Type 0
NoneBefore p i t = (j : ℕ) → j < i → ¬ IsOfType p j t

-- Type k is none of those before it.
abbrev pub IsNew : List Descriptor → ℕ → Type 0
IsNew ts k = (j : ℕ) → j < k → slice_get ts j ≢ slice_get ts k

-- No type occurs twice.
abbrev pub AreDistinct : List Descriptor → Type 0
AreDistinct ts = (k : ℕ) → k < length ts → IsNew ts k

-- No earlier class is of this one's type; its superclass and its interfaces are neither it nor a later one; no interface is given
-- twice.
pub record OrderHolds (p : Program) (i : ℕ) (c : Class) : Type 0 where
  pub once : NoneBefore p i c.ty
  pub superclass : IfSome c.superclass (NoneFrom p i)
  pub interfaces : AllByRecursion (NoneFrom p i) c.interfaces
  pub distinct : AreDistinct c.interfaces

-- ---- static values (113)

-- No more values than static fields, none deeper than 64.
pub record ValuesFit (c : Class) : Type 0 where
  pub few : length c.values ≤ length c.statics
  pub deep : AllByRecursion (λ v. depth v ≤ most_depth) c.values

-- ---- code

-- Each body in the class keeps the rule.
pub record CodesHold (Holds : Code → Type 0) (c : Class) : Type 0 where
  pub directs : AllByRecursion (λ m. IfSome m.code Holds) c.directs
  pub virtuals : AllByRecursion (λ m. IfSome m.code Holds) c.virtuals

-- ---- programs

-- Class i of the program keeps all rules.
pub record ClassHolds (p : Program) (i : ℕ) (c : Class) : Type 0 where
  pub names : NamesAreValid c
  pub members : MembersRise c
  pub order : OrderHolds p i c
  pub values : ValuesFit c
  pub operands : CodesHold OperandsHold c
  pub targets : CodesHold TargetsHold c
  pub payloads : CodesHold PayloadsHold c
  pub tries : CodesHold TriesHold c
  pub registers : CodesHold RegistersHold c

-- All classes of the program keep all rules.
abbrev pub RulesHold : Program → Type 0
RulesHold p = (i : ℕ) (c : Class) → slice_get p i ≡ Some c → ClassHolds p i c

-- the fault of a rule that class i breaks
abbrev pub broken : ℕ → ℕ → Fault
broken number i = record { code = number; place = i }

-- The fault is that of the first rule of code that class i breaks.
abbrev pub CodesBreak : ℕ → Class → Fault → Type 0
CodesBreak i c fault =
    or_else (broken 114 i) fault (CodesHold OperandsHold c) (
    or_else (broken 115 i) fault (CodesHold TargetsHold c) (
    or_else (broken 116 i) fault (CodesHold PayloadsHold c) (
    or_else (broken 117 i) fault (CodesHold TriesHold c) (
    or_else (broken 118 i) fault (CodesHold RegistersHold c) ⊥))))

-- The fault is that of the first rule that class i breaks.
abbrev pub ClassBreaks : Program → ℕ → Class → Fault → Type 0
ClassBreaks p i c fault =
    or_else (broken 110 i) fault (NamesAreValid c) (
    or_else (broken 111 i) fault (MembersRise c) (
    or_else (broken 112 i) fault (OrderHolds p i c) (
    or_else (broken 113 i) fault (ValuesFit c) (
    CodesBreak i c fault))))

-- The fault is that of the first rule that is broken by the first class that breaks one.
abbrev pub RuleBreaks : Program → Fault → Type 0
RuleBreaks p = FirstEntry p (ClassHolds p) (ClassBreaks p)
