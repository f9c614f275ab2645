-- Programs that can be printed and read again: each word can be written in its slot, and what is read in an order stands in it.
use Rattle.std.specs.Prelude.{◌≡◌, ℕ, ◌+◌, ◌<◌, ◌≤◌, ◌^◌, max, List, [], ◌∷◌, length, map, Option, Some, None}
use Rattle.std.specs.List.{AllByRecursion}
use Rattle.program_types.specs.Content.{Units, Descriptor, Value, Insn, Catch, Try, Code, Member, Method, Class, Program}
use Rattle.std.specs.declared.cmp.Ordering.TheVariants as ordering
use Rattle.program_types.specs.Key.{Key, key_cmp}
use Rattle.program_rules.specs.Rules.{AreDistinct, member_key, method_key}
use Rattle.listing_lines.specs.Lines.{open_class, super_line, implements_line, source_line, static_line, instance_line, direct_line, open_code, try_line, catch_line, catch_all_line}
use Rattle.listing_lines.specs.Needs.{insn_needs}
use Rattle.listing_parse.specs.Members.{Given}
use Rattle.listing_print.specs.Printed.{line_operands}
use Rattle.listing_print.specs.Operands.{insn_operands}
use Rattle.listing_print.specs.inner.Reading.{FitOperands, OpcodeFits}

-- ---- orders of keys

-- The key is below each of these.
abbrev pub IsBelowAll : Key → List Key → Type 0
IsBelowAll k ks = AllByRecursion (λ q. key_cmp k q ≡ ordering.Less) ks

-- Each key is below those after it.
abbrev pub KeysAreSorted : List Key → Type 0
KeysAreSorted [] = Unit {0}
KeysAreSorted (k ∷ ks) = IsBelowAll k ks × KeysAreSorted ks

-- All of the keys are below this one.
abbrev pub AllBelow : List Key → Key → Type 0
AllBelow ks k = AllByRecursion (λ q. key_cmp q k ≡ ordering.Less) ks

-- ---- codes

-- Each instruction has an opcode of its format and fits its words, and its targets are below the count.
abbrev pub InstructionsFit : ℕ → List Insn → Type 0
InstructionsFit c is = AllByRecursion (λ i. OpcodeFits i × FitOperands (insn_operands i) × (insn_needs i ≤ c)) is

-- A catch's words are written, and its target is below the count.
abbrev pub CatchFits : ℕ → Catch → Type 0
CatchFits c x = FitOperands (line_operands (catch_line x.ty x.at)) × (x.at + 1 ≤ c)

abbrev pub CatchAllFits : ℕ → Option ℕ → Type 0
CatchAllFits c None = Unit {0}
CatchAllFits c (Some k) = FitOperands (line_operands (catch_all_line k)) × (k + 1 ≤ c)

-- A try and its catches; it may end after the last instruction.
abbrev pub TryFits : ℕ → Try → Type 0
TryFits c t = FitOperands (line_operands (try_line t.from t.to)) × (max (t.from + 1) t.to ≤ c) × AllByRecursion (CatchFits c) t.catches × CatchAllFits c t.catch_all

-- A code: its sizes, its instructions and its tries.
abbrev pub CodeFits : Code → Type 0
CodeFits c = FitOperands (line_operands (open_code c.registers c.ins c.outs)) × (length c.insns < 2 ^ 64) × InstructionsFit (length c.insns) c.insns × AllByRecursion (TryFits (length c.insns)) c.tries

-- ---- members

-- A field's name, type and flags can be written.
abbrev pub FieldFits : Member → Type 0
FieldFits m = FitOperands (line_operands (instance_line m))

-- And its value, if it has one.
abbrev pub GivenFits : Given → Type 0
GivenFits g = FitOperands (line_operands (static_line g.field g.value))

-- Static fields with their values, of which the first of them have one.
abbrev pub givens : List Member → List Value → List Given
givens [] vs = []
givens (m ∷ ms) [] = record { field = m; value = None } ∷ givens ms []
givens (m ∷ ms) (v ∷ vs) = record { field = m; value = Some v } ∷ givens ms vs

abbrev pub BodyFits : Option Code → Type 0
BodyFits None = Unit {0}
BodyFits (Some c) = CodeFits c

-- A method's name, prototype and flags can be written, and its code.
abbrev pub MethodFits : Method → Type 0
MethodFits m = FitOperands (line_operands (direct_line m)) × BodyFits m.code

abbrev pub SuperFits : Option Descriptor → Type 0
SuperFits None = Unit {0}
SuperFits (Some d) = FitOperands (line_operands (super_line d))

abbrev pub SourceFits : Option Units → Type 0
SourceFits None = Unit {0}
SourceFits (Some us) = FitOperands (line_operands (source_line us))

abbrev pub InterfaceFits : Descriptor → Type 0
InterfaceFits d = FitOperands (line_operands (implements_line d))

-- A class.
pub record ClassFits (c : Class) : Type 0 where
  pub head : FitOperands (line_operands (open_class c.ty c.flags))
  pub above : SuperFits c.superclass
  pub interfaces : AllByRecursion InterfaceFits c.interfaces
  pub distinct : AreDistinct c.interfaces
  pub source : SourceFits c.source
  pub statics : AllByRecursion GivenFits (givens c.statics c.values)
  pub values : length c.values ≤ length c.statics
  pub statics_rise : KeysAreSorted (map member_key c.statics)
  pub instances : AllByRecursion FieldFits c.instances
  pub instances_rise : KeysAreSorted (map member_key c.instances)
  pub directs : AllByRecursion MethodFits c.directs
  pub directs_rise : KeysAreSorted (map method_key c.directs)
  pub virtuals : AllByRecursion MethodFits c.virtuals
  pub virtuals_rise : KeysAreSorted (map method_key c.virtuals)

-- A program.
abbrev pub IsPrintable : Program → Type 0
IsPrintable p = AllByRecursion ClassFits p
