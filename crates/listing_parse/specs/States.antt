-- A listing that is being read: what is whole so far, and what is open.
-- Page: docs/LISTING.md, "The lines", "Faults" (104).
use Rattle.std.specs.Prelude.{ℕ, ◌+◌, ◌&&◌, Bool, true, false, if◌then◌else◌, List, [], ◌∷◌, ◌++◌, length, map, Option, Some, None, option_map}
use Rattle.std.specs.List.{list_any}
use Rattle.std.specs.Ordering.{is_eq}
use Rattle.program_types.specs.Content.{Units, Descriptor, Insn, Catch, Try, Code, Member, Method, Class}
use Rattle.program_types.specs.Key.{Key, key_cmp}
use Rattle.program_rules.specs.Rules.{member_key, method_key}
use Rattle.listing_words.specs.Numbers.{is_number}
use Rattle.listing_lines.specs.Lines.{Line, first_line, open_class, end_class, super_line, implements_line, source_line, static_line, instance_line, direct_line, virtual_line, open_code, end_code, insn_line, try_line, catch_line, catch_all_line}
use Rattle.listing_slots.specs.Shapes.{Shape}
use Rattle.listing_slots.specs.Keys.{same}
use Rattle.listing_lines.specs.declared.stage.Stage.{Stage}
use Rattle.listing_lines.specs.declared.stage.Stage.TheVariants.{Start, Top, Heads, Members, After, Insns, Tries, Caught}
use Rattle.listing_lines.specs.Places.{may_stand, is_insn, is_start, is_top}
use Rattle.listing_lines.specs.Needs.{Need, line_needs, with_need, first_late, earliest}
use Rattle.listing_parse.specs.Members.{Given, given_key, with_member, values_of}

-- The class that is open; its members rise.
pub record Open : Type 0 where
  pub ty : Descriptor
  pub flags : ℕ
  pub superclass : Option Descriptor
  pub interfaces : List Descriptor
  pub source : Option Units
  pub statics : List Given
  pub instances : List Member
  pub directs : List Method
  pub virtuals : List Method

-- The method that a code belongs to: a direct or a virtual one, with this key.
pub record Owner : Type 0 where
  pub direct : Bool
  pub method : Key

-- How far the lines of a class have come: before its members, among them, or after a method, whose code may follow.
pub data ClassPart : Type 0 where
  at_heads : ClassPart
  at_members : ClassPart
  after_method : Owner → ClassPart

-- The code that is open: whose it is, and what it has so far. Its tries are those that are whole.
pub record OpenBody : Type 0 where
  pub owner : Owner
  pub registers : ℕ
  pub ins : ℕ
  pub outs : ℕ
  pub insns : List Insn
  pub tries : List Try
  pub needs : List Need

-- The try that is open: what it covers, and its catches so far.
pub record OpenTry : Type 0 where
  pub from : ℕ
  pub to : ℕ
  pub catches : List Catch

-- How far the lines of a code have come: among its instructions, after a whole try, or in a try.
pub data CodePart : Type 0 where
  at_insns : CodePart
  after_try : CodePart
  in_try : OpenTry → CodePart

-- The block that is open: none, before the first line or after it; a class; or a code of a class.
pub data Block : Type 0 where
  at_start : Block
  at_top : Block
  in_class : Open → ClassPart → Block
  in_code : Open → OpenBody → CodePart → Block

-- What a listing has so far: the whole classes, the block that is open, how many lines were read, and the lowest line
-- with a target that is no instruction of its code.
pub record State : Type 0 where
  pub done : List Class
  pub block : Block
  pub lines : ℕ
  pub late : Option ℕ

-- Nothing was read.
abbrev pub start : State
start = record { done = []; block = at_start; lines = 0; late = None }

-- ---- which line may follow

-- The position of the next line of a class.
abbrev pub class_stage : ClassPart → Stage
class_stage at_heads = Heads
class_stage at_members = Members
class_stage (after_method m) = After

-- The position of the next line of a code.
abbrev pub code_stage : CodePart → Stage
code_stage at_insns = Insns
code_stage after_try = Tries
code_stage (in_try t) = Caught

-- The position of the next line.
abbrev pub stage_of : Block → Stage
stage_of at_start = Start
stage_of at_top = Top
stage_of (in_class o p) = class_stage p
stage_of (in_code o b p) = code_stage p

-- How many instructions the open code has.
abbrev pub insn_count : Block → ℕ
insn_count (in_code o b p) = length b.insns
insn_count _ = 0

-- A line of this shape is allowed there; an instruction has the next number.
abbrev pub stands : State → Shape → Bool
stands s sh =
    may_stand (stage_of s.block) sh.kind && (if is_insn sh.kind then is_number sh.label (insn_count s.block) else true)

-- ---- the class

-- A class without anything.
abbrev pub opened : Descriptor → ℕ → Open
opened d f = record { ty = d; flags = f; superclass = None; interfaces = []; source = None; statics = []; instances = []; directs = []; virtuals = [] }

-- The class is whole.
abbrev pub closed : Open → Class
closed c = record {
  ty = c.ty;
  flags = c.flags;
  superclass = c.superclass;
  interfaces = c.interfaces;
  source = c.source;
  statics = map (λ g. g.field) c.statics;
  values = values_of c.statics;
  instances = c.instances;
  directs = c.directs;
  virtuals = c.virtuals;
}

-- The method with this key has the code.
abbrev pub with_code : List Method → Key → Code → List Method
with_code [] k c = []
with_code (m ∷ ms) k c = if is_eq (key_cmp k (method_key m)) then record m { code = Some c } ∷ ms else m ∷ with_code ms k c

-- The method that the code belongs to has it.
abbrev pub with_code_at : Open → Owner → Code → Open
with_code_at o m c =
    if m.direct then record o { directs = with_code o.directs m.method c }
    else record o { virtuals = with_code o.virtuals m.method c }

-- The type is one of these.
abbrev pub is_among : List Descriptor → Descriptor → Bool
is_among es d = list_any (same d) es

-- A static field in its place: none if the class has it.
unfoldable pub with_static : Open → Given → Option Open
with_static o g = option_map (λ gs. record o { statics = gs }) (with_member given_key g o.statics)

-- An instance field in its place: none if the class has it.
unfoldable pub with_instance : Open → Member → Option Open
with_instance o m = option_map (λ ms. record o { instances = ms }) (with_member member_key m o.instances)

-- A direct method in its place: none if the class has it.
unfoldable pub with_direct : Open → Method → Option Open
with_direct o m = option_map (λ ms. record o { directs = ms }) (with_member method_key m o.directs)

-- A virtual method in its place: none if the class has it.
unfoldable pub with_virtual : Open → Method → Option Open
with_virtual o m = option_map (λ ms. record o { virtuals = ms }) (with_member method_key m o.virtuals)

-- The class with this superclass: none if it has one.
unfoldable pub with_superclass : Open → Descriptor → Option Open
with_superclass o d = elim o.superclass [ None ↦ Some (record o { superclass = Some d }) | Some e ↦ None ]

-- The class with this source file: none if it has one.
unfoldable pub with_source : Open → Units → Option Open
with_source o us = elim o.source [ None ↦ Some (record o { source = Some us }) | Some e ↦ None ]

-- One interface more, after the others: none if the class has it.
unfoldable pub with_interface : Open → Descriptor → Option Open
with_interface o d = if is_among o.interfaces d then None else Some (record o { interfaces = o.interfaces ++ d ∷ [] })

-- The class with its lines up to this part, if there is one.
abbrev pub at_part : ClassPart → Option Open → Option (Open × ClassPart)
at_part p o = option_map (λ c. (c, p)) o

-- A line of the class alone: the class with what it gives, none where that is given already or the line is of another
-- kind.
abbrev pub class_line : Open → Line → Option (Open × ClassPart)
class_line o (super_line d) = at_part at_heads (with_superclass o d)
class_line o (implements_line d) = at_part at_heads (with_interface o d)
class_line o (source_line us) = at_part at_heads (with_source o us)
class_line o (static_line m v) = at_part at_members (with_static o (record { field = m; value = v }))
class_line o (instance_line m) = at_part at_members (with_instance o m)
class_line o (direct_line m) =
    at_part (after_method (record { direct = true; method = method_key m })) (with_direct o m)
class_line o (virtual_line m) =
    at_part (after_method (record { direct = false; method = method_key m })) (with_virtual o m)
class_line o _ = None

-- ---- the code

-- A code without anything, of this method.
abbrev pub begun : Owner → ℕ → ℕ → ℕ → OpenBody
begun m r i o = record { owner = m; registers = r; ins = i; outs = o; insns = []; tries = []; needs = [] }

-- What a line's targets need is noted.
abbrev pub noted : OpenBody → ℕ → Line → OpenBody
noted b n line = record b { needs = with_need b.needs n (line_needs line) }

-- One instruction more.
abbrev pub with_insn : OpenBody → Insn → OpenBody
with_insn b i = record b { insns = b.insns ++ i ∷ [] }

-- The open try with its catch of everything, if it has one, is whole.
abbrev pub try_of : OpenTry → Option ℕ → Try
try_of t all = record { from = t.from; to = t.to; catches = t.catches; catch_all = all }

-- The tries, when the one that is open is whole, if one is.
abbrev pub all_tries : CodePart → Option ℕ → List Try → List Try
all_tries (in_try t) all ts = ts ++ try_of t all ∷ []
all_tries _ all ts = ts

-- No try is open any more.
abbrev pub with_tries : OpenBody → CodePart → Option ℕ → OpenBody
with_tries b p all = record b { tries = all_tries p all b.tries }

-- One catch more in the open try: none where no try is open.
abbrev pub with_catch : CodePart → Catch → Option CodePart
with_catch (in_try t) c = Some (in_try (record t { catches = t.catches ++ c ∷ [] }))
with_catch _ c = None

-- A try is open.
abbrev pub is_in_try : CodePart → Bool
is_in_try (in_try t) = true
is_in_try _ = false

-- The code is whole.
abbrev pub whole_code : OpenBody → Code
whole_code b = record { registers = b.registers; ins = b.ins; outs = b.outs; insns = b.insns; tries = b.tries }

-- A line of the code alone: none where it is of another kind, or a catch where no try is open.
abbrev pub code_line : OpenBody → CodePart → Line → Option (OpenBody × CodePart)
code_line b p (insn_line i) = Some (with_insn b i, at_insns)
code_line b p (try_line from to) = Some (with_tries b p None, in_try (record { from = from; to = to; catches = [] }))
code_line b p (catch_line d k) = option_map (λ q. (b, q)) (with_catch p (record { ty = d; at = k }))
code_line b p (catch_all_line k) = if is_in_try p then Some (with_tries b p (Some k), after_try) else None
code_line b p _ = None

-- ---- a line more

-- A line that is allowed inside the open block is added to it, and what its targets need is noted for this line: none
-- where it gives again what may be given once.
unfoldable pub inside : Block → ℕ → Line → Option Block
inside (in_class o p) n line = option_map (λ c. in_class c.0 c.1) (class_line o line)
inside (in_code o b p) n line = option_map (λ c. in_code o c.0 c.1) (code_line (noted b n line) p line)
inside _ n line = None

-- The class that is open, outside of its codes.
abbrev pub class_of : Block → Option Open
class_of (in_class o p) = Some o
class_of _ = None

-- The method whose code may follow.
abbrev pub owner_of : Block → Option Owner
owner_of (in_class o (after_method m)) = Some m
owner_of _ = None

-- The code begins.
abbrev pub with_body : Block → OpenBody → Block
with_body (in_class o p) b = in_code o b at_insns
with_body other b = other

-- The code is whole, and the method that it belongs to has it: none where no code is open.
abbrev pub code_ended : Block → Option Block
code_ended (in_code o b p) = Some (in_class (with_code_at o b.owner (whole_code (with_tries b p None))) at_members)
code_ended _ = None

-- The lowest line of the open code with a target that is none of its instructions.
abbrev pub late_in : Block → Option ℕ
late_in (in_code o b p) = first_late (length b.insns) b.needs
late_in _ = None

-- This block is open.
abbrev pub with_block : State → Block → State
with_block s b = record s { block = b }

-- A line that is allowed there is added to the listing: none if it repeats what may occur once.
unfoldable pub add : State → Line → Option State
add s first_line = if is_start (stage_of s.block) then Some (with_block s at_top) else None
add s (open_class d f) =
    if is_top (stage_of s.block) then Some (with_block s (in_class (opened d f) at_heads)) else None
add s end_class = option_map (λ o. record s { done = s.done ++ closed o ∷ []; block = at_top }) (class_of s.block)
add s (open_code r i u) = option_map (λ m. with_block s (with_body s.block (begun m r i u))) (owner_of s.block)
add s end_code = option_map (λ b. record s { block = b; late = earliest s.late (late_in s.block) }) (code_ended s.block)
add s line = option_map (λ b. with_block s b) (inside s.block s.lines line)

-- One line more was read.
abbrev pub counted : State → State
counted s = record s { lines = s.lines + 1 }

-- ---- contracts of private helpers
