-- The faults of a code item: the rule that is violated at its place.
-- Page: "Dalvik Executable format", "code_item", "try_item" and "encoded_catch_handler_list".
use Rattle.std.specs.Prelude.{ℕ, ◌≡◌, ◌+◌, ◌*◌, ◌%◌, ◌<◌, ◌≤◌, ◌⊎◌, List, ◌++◌, drop, Some}
use Rattle.dex_base.specs.FirstFault.{or_else, or_broken}
use Rattle.dex_base.specs.declared.fault.Fault.{Fault}
use Rattle.dex_insn.specs.Raw.{Raw}
use Rattle.program_types.specs.Content.{Name, Insn, Code}
use Rattle.dex_container.specs.Where.{IsInSection, IsSectionRest}
use Rattle.code_read.specs.Walk.{starts}
use Rattle.code_read.specs.InsnFaults.{InsnsBreak}
use Rattle.code_read.specs.Linked.{SpellsInsns}
use Rattle.code_read.specs.Registers.{IsPast}
use Rattle.code_read.specs.Code.{BodyStands}
use Rattle.code_read.specs.Item.{insns_size, tries_of, insns_bytes, items_of, tries_begin, list_begin, try_handler, HasFixedParts}
use Rattle.code_read.specs.Handlers.{Handler, SpellsList, handler_at}
use Rattle.code_read.specs.Tries.{TryHolds}

-- ---- tries; `base` is the place of the first try_item

-- These bytes begin with handlers, and each of the n try_items has one of them.
pub record HasHandlers (N : ℕ → Name → Type 0) (ss : List ℕ) (n : ℕ) (items rest : List ℕ) : Type 0 where
  pub list : List ℕ
  pub after : List ℕ
  pub joined : rest ≡ list ++ after
  pub handlers : List (ℕ × Handler)
  pub spelled : SpellsList N ss list handlers
  pub each : (i : ℕ) → i < n → (h : Handler) × (handler_at handlers (try_handler items i) ≡ Some h)

-- the place of the list
abbrev pub list_fault : ℕ → Fault
list_fault place = record { code = 72; place = place }

-- the try_item i
abbrev pub try_fault : ℕ → ℕ → Fault
try_fault base i = record { code = 71; place = base + 8 * i }

-- What is wrong with tries and handlers: the first try_item that breaks the rules (71), or, if none does, the list (72).
abbrev pub TriesBreak : (ℕ → Name → Type 0) → List ℕ → ℕ → ℕ → List ℕ → List ℕ → ℕ → Fault → Type 0
TriesBreak N ss size n items rest base fault =
    or_broken n (TryHolds ss size items) (try_fault base) fault (
    or_else (list_fault (base + 8 * n)) fault (0 < n → HasHandlers N ss n items rest) ⊥)

-- ---- the item

-- What is wrong with the item at `off` whose section has these bytes from it on: header, units, padding or try_items go past the
-- section (60), it has no units (61), its instructions are wrong, or its tries are.
abbrev pub ItemBreaks : (ℕ → Name → Type 0) → ℕ → List ℕ → Fault → Type 0
ItemBreaks N off bytes fault =
    or_else (record { code = 60; place = off }) fault (HasFixedParts bytes) (
    or_else (record { code = 61; place = off }) fault (0 < insns_size bytes) (
    InsnsBreak N (insns_bytes bytes) (off + 16) fault
    ⊎ ((raws : List Raw) × (is : List Insn) × SpellsInsns N (insns_bytes bytes) raws is
    × TriesBreak N (starts raws) (insns_size bytes) (tries_of bytes) (items_of bytes) (drop (list_begin bytes) bytes) (off + tries_begin bytes) fault)))

-- ---- the file

-- The place is misaligned or lies outside the section of code items (60), or what is there is wrong.
abbrev pub CodeBreaks : (ℕ → Name → Type 0) → List ℕ → ℕ → Fault → Type 0
CodeBreaks N b off fault =
    or_else (record { code = 60; place = off }) fault (off % 4 ≡ 0) (
    or_else (record { code = 60; place = off }) fault (IsInSection b 0x2001 off) (
    (end : ℕ) × (bytes : List ℕ) × IsSectionRest 0x2001 b off end bytes × ItemBreaks N off bytes fault))

-- ---- registers, which are checked last

-- What is wrong with the registers of the code whose item is at `off` (73): its ins are more (the place is the item), or the
-- first instruction that names one past them (the place is the instruction).
abbrev pub RegistersBreak : ℕ → Code → Fault → Type 0
RegistersBreak off c fault =
    or_else (record { code = 73; place = off }) fault (c.ins ≤ c.registers) (
    (at : ℕ) × IsPast c.registers c.insns at × (fault ≡ record { code = 73; place = off + 16 + 2 * at }))

-- At this place is a code, apart from its registers.
pub record CodeOverruns (N : ℕ → Name → Type 0) (b : List ℕ) (off : ℕ) (fault : Fault) : Type 0 where
  pub code : Code
  pub body : BodyStands N b off code
  pub breaks : RegistersBreak off code fault
