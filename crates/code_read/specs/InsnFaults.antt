-- The faults of the instructions of a code: the rule that the first instruction violates, at its place.
-- Pages: "Dalvik bytecode", "Dalvik Executable instruction formats".
use Rattle.std.specs.Prelude.{ℕ, ◌+◌, ◌*◌, ◌⊎◌, List, length, slice_index}
use Rattle.dex_base.specs.FirstFault.{or_else, FirstBroken, or_first, or_broken}
use Rattle.dex_base.specs.declared.fault.Fault.{Fault}
use Rattle.dex_insn.specs.Raw.{Raw}
use Rattle.program_types.specs.Content.{Name, Insn}
use Rattle.program_types.specs.Formed.{PayloadHolds}
use Rattle.code_rules.specs.Branches.{BranchLands, BranchMoves, BranchHolds, SwitchLands}
use Rattle.code_read.specs.Walk.{Walks, IsWalkFault, starts}
use Rattle.code_read.specs.Linked.{NameHolds, AreLinked}

-- The fault of instruction k, at its address; `base` is the place of the first unit, in bytes.
abbrev pub insn_fault : List ℕ → ℕ → ℕ → ℕ → Fault
insn_fault ss base number k = record { code = number; place = base + 2 * slice_index ss k }

-- The fault of the first instruction whose index has no row (65).
abbrev pub NamesBreak : (ℕ → Name → Type 0) → List Raw → List ℕ → ℕ → Fault → Type 0
NamesBreak N rs ss base = FirstBroken (length rs) (NameHolds N rs) (insn_fault ss base 65)

-- The first rule of branches that instruction k violates: the target (68), a target other than itself (69).
abbrev pub BranchBreaks : List ℕ → List Insn → ℕ → ℕ → Fault → Type 0
BranchBreaks ss is base k fault =
    or_else (insn_fault ss base 68 k) fault (BranchLands is k) (
    or_else (insn_fault ss base 69 k) fault (BranchMoves is k) ⊥)

-- The first rule that a linked instruction violates: those of branches, the use of payloads (70), the targets of a
-- switch (68).
abbrev pub LinkedBreak : List ℕ → List Insn → ℕ → Fault → Type 0
LinkedBreak ss is base fault =
    or_first (length is) (BranchHolds is) (BranchBreaks ss is base) fault (
    or_broken (length is) (PayloadHolds is) (insn_fault ss base 70) fault (
    or_broken (length is) (SwitchLands is) (insn_fault ss base 68) fault ⊥))

-- An index has no row, or the linked instructions violate a rule.
abbrev pub RulesBreak : (ℕ → Name → Type 0) → List Raw → ℕ → Fault → Type 0
RulesBreak N rs base fault =
    NamesBreak N rs (starts rs) base fault
    ⊎ ((is : List Insn) × AreLinked N rs is × LinkedBreak (starts rs) is base fault)

-- What is wrong with the units: after some instructions there is none (62, 63, 64, 66, 67), or the instructions violate a rule.
abbrev pub InsnsBreak : (ℕ → Name → Type 0) → List ℕ → ℕ → Fault → Type 0
InsnsBreak N us base fault = IsWalkFault us base fault ⊎ ((rs : List Raw) × Walks us rs × RulesBreak N rs base fault)
