-- The faults of class rows, static values, code and its registers. Each is stated so that it has a meaning for any file; it
-- is checked only if the groups before, and the rows before, hold.
use Rattle.std.specs.Prelude.{◌≡◌, ◌≢◌, ℕ, ◌<◌, ◌==◌, ◌||◌, if◌then◌else◌, MatchBool, None, List, length, Option, Some, slice_index}
use Rattle.std.specs.List.{slice_get}
use Rattle.dex_base.specs.FirstFault.{or_later, or_else, First, or_first, FirstEntry}
use Rattle.dex_base.specs.declared.fault.Fault.{Fault}
use Rattle.dex_container.specs.Layout.{size_of}
use Rattle.dex_container.specs.Section as section
use Rattle.program_types.specs.Content.{Units, FieldRef, MethodRef, Value, Code, Class}
use Rattle.tables_rows.specs.RowFields.{row_place}
use Rattle.tables_rows.specs.Names.{Names, AreNamesOf, NameIsAt}
use Rattle.tables_rows.specs.Stands.{TypeStands, FieldStands, MethodStands, NameStands}
use Rattle.dex_value.specs.Faults.{ArrayBreaksAt}
use Rattle.code_read.specs.Code.{BodyStands}
use Rattle.code_read.specs.Faults.{CodeBreaks, CodeOverruns}
use Rattle.file_classes.specs.ClassRows.{no_index, InOrder, class_data_off, class_idx, interfaces_off, source_file_idx, static_values_off, superclass_idx}
use Rattle.file_classes.specs.ClassData.{FieldEntry, MethodEntry, Entries, EntriesAt, steps, index_of, code_off}
use Rattle.file_classes.specs.Classes.{RowIs, InterfacesAt, HeadIs, StaticsAt, CodeAt}

-- ---- class rows

-- The indices of class, superclass and source file are in their tables.
pub record NamesAreIn (b : List ℕ) (i : ℕ) : Type 0 where
  pub class : class_idx b i < size_of b section.type_ids
  pub superclass : superclass_idx b i ≢ no_index → superclass_idx b i < size_of b section.type_ids
  pub source : source_file_idx b i ≢ no_index → source_file_idx b i < size_of b section.string_ids

-- Class and superclass are class types.
abbrev pub HasNames : List ℕ → ℕ → Type 0
HasNames b i = (class : Units) × (flags : ℕ) × (superclass : Option Units) × (source : Option Units) × RowIs b i class flags superclass source

-- ---- members, entry by entry

-- The class of a row of field_ids.
abbrev pub FieldOwner : List ℕ → ℕ → Units → Type 0
FieldOwner b j t = (f : FieldRef) × FieldStands b j f × (f.class ≡ t)

-- The class of a row of method_ids.
abbrev pub MethodOwner : List ℕ → ℕ → Units → Type 0
MethodOwner b j t = (m : MethodRef) × MethodStands b j m × (m.class ≡ t)

-- Entry k is one of the class, and has a higher index than the entry before.
pub record MemberEntryHolds (IsOwner : ℕ → Units → Type 0) (class : Units) (differences : List ℕ) (k : ℕ) : Type 0 where
  pub owned : IsOwner (index_of differences k) class
  pub rises : 0 < k → 0 < slice_index differences k

-- The rule that entry k breaks.
abbrev pub EntryBreaks : (ℕ → Units → Type 0) → ℕ → Units → List ℕ → ℕ → ℕ → Type 0
EntryBreaks IsOwner size class differences k code =
    or_else 45 code (index_of differences k < size) (
    or_else 46 code (IsOwner (index_of differences k) class) (
    or_else 47 code (0 < k → 0 < slice_index differences k) ⊥))

-- All entries of a list hold.
abbrev pub MemberEntriesHold : (ℕ → Units → Type 0) → Units → List ℕ → Type 0
MemberEntriesHold IsOwner class differences =
    (k : ℕ) → k < length differences → MemberEntryHolds IsOwner class differences k

-- The first entry of a list that breaks a rule.
abbrev pub EntriesBreak : (ℕ → Units → Type 0) → ℕ → Units → List ℕ → ℕ → Type 0
EntriesBreak IsOwner size class differences =
    First (length differences) (MemberEntryHolds IsOwner class differences) (EntryBreaks IsOwner size class differences)

-- Each of these is a field of the class, and their indices rise.
abbrev pub FieldEntriesHold : List ℕ → Units → List FieldEntry → Type 0
FieldEntriesHold b class es = MemberEntriesHold (FieldOwner b) class (steps es)

-- The first entry that is no field of the class, or whose index doesn't rise, breaks the rule of this number.
abbrev pub FieldEntriesBreak : List ℕ → Units → List FieldEntry → ℕ → Type 0
FieldEntriesBreak b class es code = EntriesBreak (FieldOwner b) (size_of b section.field_ids) class (steps es) code

-- Each of these is a method of the class, and their indices rise.
abbrev pub MethodEntriesHold : List ℕ → Units → List MethodEntry → Type 0
MethodEntriesHold b class es = MemberEntriesHold (MethodOwner b) class (steps es)

-- The first entry that is no method of the class, or whose index doesn't rise, breaks the rule of this number.
abbrev pub MethodEntriesBreak : List ℕ → Units → List MethodEntry → ℕ → Type 0
MethodEntriesBreak b class es code = EntriesBreak (MethodOwner b) (size_of b section.method_ids) class (steps es) code

-- The first of the four lists that doesn't: static fields, instance fields, direct methods, virtual methods.
abbrev pub MembersBreak : List ℕ → Units → Entries → ℕ → Type 0
MembersBreak b class e code =
    or_later (FieldEntriesBreak b class e.statics code) (FieldEntriesHold b class e.statics) (
    or_later (FieldEntriesBreak b class e.instances code) (FieldEntriesHold b class e.instances) (
    or_later (MethodEntriesBreak b class e.directs code) (MethodEntriesHold b class e.directs) (
    MethodEntriesBreak b class e.virtuals code)))

-- 45 to 47: an entry of the row's class data breaks one.
pub record MemberBreaks (b : List ℕ) (i code : ℕ) : Type 0 where
  pub class : Units
  pub named : TypeStands b (class_idx b i) class
  pub entries : Entries
  pub class_data : EntriesAt b (class_data_off b i) entries
  pub breaks : MembersBreak b class entries code

-- The rule that row i of class_defs violates: the first, since each is checked only if those before it are satisfied.
unfoldable pub ClassRowBreaks : List ℕ → ℕ → ℕ → Type 0
ClassRowBreaks b i code =
    or_else 40 code (NamesAreIn b i) (
    or_else 41 code (HasNames b i) (
    or_else 43 code ((ts : List Units) × InterfacesAt b (interfaces_off b i) ts) (
    or_else 42 code (InOrder b i) (
    or_else 44 code ((e : Entries) × EntriesAt b (class_data_off b i) e) (
    MemberBreaks b i code)))))

-- Row i keeps the rules of class rows.
pub record ClassRowHolds (b : List ℕ) (i : ℕ) : Type 0 where
  pub entries : Entries
  pub class : Class
  pub head : HeadIs b i entries class
  pub order : InOrder b i

-- ---- static values

-- The static values of row i.
pub record ValuesStand (b : List ℕ) (i : ℕ) (vs : List Value) : Type 0 where
  pub entries : Entries
  pub class_data : EntriesAt b (class_data_off b i) entries
  pub spelled : StaticsAt b (static_values_off b i) (length entries.statics) vs

-- Row i has static values.
abbrev pub ValuesHold : List ℕ → ℕ → Type 0
ValuesHold b i = (vs : List Value) × ValuesStand b i vs

-- A fault of an array (48 Values, 49 TooManyValues) is at the row, one of a value (50 ValueKind, 51 ValueDepth) at the value.
abbrev pub at_row : ℕ → Fault → Fault
at_row place fault = if (fault.code == 48) || (fault.code == 49) then record { code = fault.code; place = place } else fault

-- Row i names an array, which has a fault.
pub record ValuesBreak (b : List ℕ) (i : ℕ) (fault : Fault) : Type 0 where
  pub entries : Entries
  pub class_data : EntriesAt b (class_data_off b i) entries
  pub some : static_values_off b i ≢ 0
  pub names : Names
  pub of_file : AreNamesOf b names
  pub own : Fault
  pub breaks : ArrayBreaksAt (NameIsAt names) b (static_values_off b i) (length entries.statics) own
  pub moved : fault ≡ at_row (row_place b section.class_defs i) own

-- ---- code, in two passes: bodies, whichever registers they name, then registers

-- The body at an offset.
pub record SomeBodyStands (b : List ℕ) (place : ℕ) (code : Option Code) : Type 0 where
  pub some : Code
  pub is : code ≡ Some some
  pub stands : BodyStands (NameStands b) b place some

-- The body at an offset, none at 0.
abbrev pub BodyAt : List ℕ → ℕ → Option Code → Type 0
BodyAt b place code = MatchBool (place == 0) (code ≡ None) (SomeBodyStands b place code)

-- The body at an offset, if any, is valid.
abbrev pub BodyHolds : List ℕ → ℕ → Type 0
BodyHolds b place = (code : Option Code) × BodyAt b place code

-- The code at an offset, if any, is valid.
abbrev pub CodeHolds : List ℕ → ℕ → Type 0
CodeHolds b place = (code : Option Code) × CodeAt b place code

-- What the body of a code at an offset breaks.
pub record BodyFails (b : List ℕ) (place : ℕ) (fault : Fault) : Type 0 where
  pub some : place ≢ 0
  pub names : Names
  pub of_file : AreNamesOf b names
  pub breaks : CodeBreaks (NameIsAt names) b place fault

-- What is wrong with the registers of the code at an offset.
pub record RegistersFail (b : List ℕ) (place : ℕ) (fault : Fault) : Type 0 where
  pub some : place ≢ 0
  pub names : Names
  pub of_file : AreNamesOf b names
  pub breaks : CodeOverruns (NameIsAt names) b place fault

-- Holds and Fails are the conditions of a pass at an offset.
-- Each of these methods holds.
abbrev pub EachCodeHolds : (List ℕ → ℕ → Type 0) → List ℕ → List MethodEntry → Type 0
EachCodeHolds Holds b es = (k : ℕ) (e : MethodEntry) → slice_get es k ≡ Some e → Holds b (code_off e)

-- The fault of the first of a list that doesn't.
abbrev pub SomeCodeFails : (List ℕ → ℕ → Type 0) → (List ℕ → ℕ → Fault → Type 0) → List ℕ → List MethodEntry → Fault → Type 0
SomeCodeFails Holds Fails b es = FirstEntry es (λ k e. Holds b (code_off e)) (λ k e. Fails b (code_off e))

-- All code of row i holds.
pub record ClassCodesHold (Holds : List ℕ → ℕ → Type 0) (b : List ℕ) (i : ℕ) : Type 0 where
  pub entries : Entries
  pub class_data : EntriesAt b (class_data_off b i) entries
  pub directs : EachCodeHolds Holds b entries.directs
  pub virtuals : EachCodeHolds Holds b entries.virtuals

-- The first code of row i that doesn't: direct methods, then virtual ones.
pub record MethodsBreak (Holds : List ℕ → ℕ → Type 0) (Fails : List ℕ → ℕ → Fault → Type 0) (b : List ℕ) (i : ℕ) (fault : Fault) : Type 0 where
  pub entries : Entries
  pub class_data : EntriesAt b (class_data_off b i) entries
  pub breaks : or_later (SomeCodeFails Holds Fails b entries.directs fault) (EachCodeHolds Holds b entries.directs) (SomeCodeFails Holds Fails b entries.virtuals fault)

-- The two passes.
abbrev pub BodiesHold : List ℕ → ℕ → Type 0
BodiesHold = ClassCodesHold BodyHolds

-- A body of row i breaks a rule.
abbrev pub BodiesBreak : List ℕ → ℕ → Fault → Type 0
BodiesBreak = MethodsBreak BodyHolds BodyFails

-- The code of row i is valid, with its registers.
abbrev pub RowRegistersHold : List ℕ → ℕ → Type 0
RowRegistersHold = ClassCodesHold CodeHolds

-- The registers of a code of row i don't.
abbrev pub RowRegistersBreak : List ℕ → ℕ → Fault → Type 0
RowRegistersBreak = MethodsBreak CodeHolds RegistersFail

-- ---- in the order of the groups

-- A line of a list of rules: the first fault of a pass over the class rows, or all rows hold and the rest has the fault.
abbrev pub or_class : (List ℕ → ℕ → Fault → Type 0) → (List ℕ → ℕ → Type 0) → List ℕ → Fault → Type 0 → Type 0
or_class Breaks Holds b = or_first (size_of b section.class_defs) (Holds b) (Breaks b)
