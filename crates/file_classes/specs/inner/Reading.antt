-- Reading: what the contracts of private functions cite.
use Rattle.std.specs.Prelude.{◌≡◌, ◌≢◌, ℕ, ◌<◌, List, [], length, map, option_map, Option, Some, None, IfSome, IfNone}
use Rattle.std.specs.List.{slice_get}
use Rattle.dex_base.specs.FirstFault.{or_else, FirstEntry}
use Rattle.dex_base.specs.declared.fault.Fault.{Fault}
use Rattle.program_types.specs.Content as content
use Rattle.program_types.specs.View.{str, desc, proto, member, value, code}
use Rattle.file_classes.specs.declared.class_data.FieldEntry.{FieldEntry}
use Rattle.file_classes.specs.declared.class_data.MethodEntry.{MethodEntry}
use Rattle.file_classes.specs.declared.class_data.Counts.{Counts}
use Rattle.file_classes.specs.declared.class_data.Entries.{Entries}
use Rattle.file_classes.specs.declared.members.Bare.{Bare}
use Rattle.file_classes.specs.declared.heads.Head.{Head}
use Rattle.file_classes.specs.declared.members.Members.{Members}
use Rattle.file_classes.specs.declared.methods.Codes.{Codes}
use Rattle.file_classes.specs.declared.keeping.FoundCode.{FoundCode}
use Rattle.tables_rows.specs.inner.Cached.{AreCached}
use Rattle.file_classes.specs.ClassData.{EntriesAre}
use Rattle.file_classes.specs.declared.statics.Statics.{Statics}
use Rattle.file_classes.specs.ClassData as numbers
use Rattle.file_classes.specs.ClassRows.{static_values_off}
use Rattle.file_classes.specs.Classes.{IsField, IsMethod, HeadIs, StaticsAt}
use Rattle.file_classes.specs.ClassFaults.{EntriesBreak, MembersBreak, ValuesStand, BodyAt, BodyHolds, CodeHolds, RegistersFail}

-- entries in memory, as their content
abbrev pub field_entry : FieldEntry → numbers.FieldEntry
field_entry e = (e.step, e.flags)

-- A method's entry in memory.
abbrev pub method_entry : MethodEntry → numbers.MethodEntry
method_entry e = (e.step, (e.flags, e.code))

-- Counts in memory.
abbrev pub counts : Counts → ℕ × (ℕ × (ℕ × ℕ))
counts c = (c.statics, (c.instances, (c.directs, c.virtuals)))

-- The four lists in memory.
abbrev pub entries : Entries → numbers.Entries
entries e = record {
  statics = map field_entry e.statics.items;
  instances = map field_entry e.instances.items;
  directs = map method_entry e.directs.items;
  virtuals = map method_entry e.virtuals.items;
}

-- a method with this code
abbrev pub with_code : Bare → Option content.Code → content.Method
with_code m o = record { name = str m.method.now.name; proto = proto m.method.now.proto.now; flags = m.flags; code = o }

-- a method before its code is read
abbrev pub bare : Bare → content.Method
bare m = with_code m None

-- The entry with this index is this method of the class, and its code stands here.
pub record IsBare (b : List ℕ) (class : content.Units) (index : ℕ) (e : numbers.MethodEntry) (m : Bare) : Type 0 where
  pub method : IsMethod b class index e (bare m)
  pub code : m.code ≡ e.1.1

-- a class before its static values and its code are read
abbrev pub head : Head → content.Class
head h = record {
  ty = desc h.ty;
  flags = h.flags;
  superclass = option_map desc h.superclass;
  interfaces = map desc h.interfaces.now;
  source = option_map str h.source;
  statics = map member h.statics.now;
  values = [];
  instances = map member h.instances.now;
  directs = map bare h.directs.now;
  virtuals = map bare h.virtuals.now;
}

-- Each method's code stands where its entry says.
abbrev pub HaveCodes : List numbers.MethodEntry → List Bare → Type 0
HaveCodes es ms = (k : ℕ) (e : numbers.MethodEntry) (m : Bare) → slice_get es k ≡ Some e → slice_get ms k ≡ Some m → m.code ≡ e.1.1

-- This is the head of row i.
pub record IsHead (b : List ℕ) (i : ℕ) (h : Head) : Type 0 where
  pub entries : numbers.Entries
  pub head : HeadIs b i entries (head h)
  pub directs : HaveCodes entries.directs h.directs.now
  pub virtuals : HaveCodes entries.virtuals h.virtuals.now

-- These are the static values of row i.
abbrev pub AreStatics : List ℕ → ℕ → Statics → Type 0
AreStatics b i s = ValuesStand b i (map value s.values.now)

-- These are the members of a class, with these entries.
pub record MembersStand (b : List ℕ) (class : content.Units) (e : numbers.Entries) (m : Members) : Type 0 where
  pub statics : EntriesAre (IsField b class) e.statics (map member m.statics.now)
  pub instances : EntriesAre (IsField b class) e.instances (map member m.instances.now)
  pub directs : EntriesAre (IsBare b class) e.directs m.directs.now
  pub virtuals : EntriesAre (IsBare b class) e.virtuals m.virtuals.now

-- ---- refusals

-- The rule that the row of an index breaks: it is out of its table, or of another class.
unfoldable pub IndexBreaks : (ℕ → content.Units → Type 0) → ℕ → content.Units → ℕ → ℕ → Type 0
IndexBreaks IsOwner size class index code = or_else 45 code (index < size) (or_else 46 code (IsOwner index class) ⊥)

-- The row of an index breaks one, and this is the fault.
pub record IndexFails (IsOwner : ℕ → content.Units → Type 0) (size : ℕ) (class : content.Units) (index place : ℕ) (fault : Fault) : Type 0 where
  pub breaks : IndexBreaks IsOwner size class index fault.code
  pub there : fault.place ≡ place

-- An entry of a list breaks a rule (45 to 47).
pub record EntriesFail (IsOwner : ℕ → content.Units → Type 0) (size : ℕ) (class : content.Units) (differences : List ℕ) (place : ℕ) (fault : Fault) : Type 0 where
  pub breaks : EntriesBreak IsOwner size class differences fault.code
  pub there : fault.place ≡ place

-- An entry of the four lists breaks a rule (45 to 47).
pub record MembersFail (b : List ℕ) (class : content.Units) (e : numbers.Entries) (place : ℕ) (fault : Fault) : Type 0 where
  pub breaks : MembersBreak b class e fault.code
  pub there : fault.place ≡ place

-- None of the first m types is type n.
abbrev pub IsNotAmong : List content.Units → ℕ → ℕ → Type 0
IsNotAmong ts m n = (j : ℕ) (t : content.Units) → j < m → slice_get ts j ≡ Some t → slice_get ts n ≢ Some t

-- ---- methods with their code

-- This is kept of the body at an offset: its code is right, or this is the fault of its registers.
pub record IsFound {C : Type 0} (Is : C → Option content.Code → Type 0) (b : List ℕ) (off : ℕ) (x : FoundCode C) : Type 0 where
  pub some : Option content.Code
  pub body : BodyAt b off some
  pub is : Is x.code some
  pub hold : IfNone x.past (CodeHolds b off)
  pub past : IfSome x.past (RegistersFail b off)

-- Each of the codes is one of this file, at its offset.
abbrev pub AreCodesOf : List ℕ → Codes → Type 0
AreCodesOf b codes = AreCached (IsFound (λ x o. o ≡ option_map (λ c. code c.now) x) b) codes.found

-- This is the method, with its body.
pub record IsDone (b : List ℕ) (m : Bare) (v : content.Method) : Type 0 where
  pub name : (bare m).name ≡ v.name
  pub proto : (bare m).proto ≡ v.proto
  pub flags : (bare m).flags ≡ v.flags
  pub code : BodyAt b m.code v.code

-- Of the first n methods all codes hold.
abbrev pub CodesHoldUpTo : (List ℕ → ℕ → Type 0) → List ℕ → List Bare → ℕ → Type 0
CodesHoldUpTo Holds b ms n = (k : ℕ) (m : Bare) → k < n → slice_get ms k ≡ Some m → Holds b m.code

-- These are the first n methods, with their bodies.
pub record AreDone (b : List ℕ) (ms : List Bare) (n : ℕ) (vs : List content.Method) : Type 0 where
  pub count : length vs ≡ n
  pub each : (k : ℕ) (m : Bare) (v : content.Method) → slice_get ms k ≡ Some m → slice_get vs k ≡ Some v → IsDone b m v
  pub hold : CodesHoldUpTo BodyHolds b ms n

-- This is kept of the methods, with their bodies.
abbrev pub AreKept : {M : Type 0} → (M → List content.Method → Type 0) → List ℕ → List Bare → M → Type 0
AreKept Are b ms x = (vs : List content.Method) × AreDone b ms (length ms) vs × Are x vs

-- The fault is that of the first of the methods whose code doesn't hold.
abbrev pub FirstCodeBreaks : (List ℕ → ℕ → Type 0) → (List ℕ → ℕ → Fault → Type 0) → List ℕ → List Bare → Fault → Type 0
FirstCodeBreaks Holds Fails b ms = FirstEntry ms (λ k m. Holds b m.code) (λ k m. Fails b m.code)

-- Each of the methods has the body of its entry.
abbrev pub BodiesAre : List ℕ → List numbers.MethodEntry → List content.Method → Type 0
BodiesAre b es ms = (k : ℕ) (e : numbers.MethodEntry) (m : content.Method) → slice_get es k ≡ Some e → slice_get ms k ≡ Some m → BodyAt b e.1.1 m.code

-- Row i spells the class, whichever registers its code names.
pub record SpellsBodies (b : List ℕ) (i : ℕ) (c : content.Class) : Type 0 where
  pub entries : numbers.Entries
  pub head : HeadIs b i entries c
  pub values : StaticsAt b (static_values_off b i) (length entries.statics) c.values
  pub directs : BodiesAre b entries.directs c.directs
  pub virtuals : BodiesAre b entries.virtuals c.virtuals

-- Of the first n of the methods all codes hold, or this is the first fault.
pub record CodesUpTo (Holds : List ℕ → ℕ → Type 0) (Fails : List ℕ → ℕ → Fault → Type 0) (b : List ℕ) (ms : List Bare) (n : ℕ) (past : Option Fault) : Type 0 where
  pub none : IfNone past (CodesHoldUpTo Holds b ms n)
  pub some : IfSome past (FirstCodeBreaks Holds Fails b ms)
