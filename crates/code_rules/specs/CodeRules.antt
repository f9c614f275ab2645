-- The rules that the code of a program keeps, in the order of their faults.
-- Pages: "Dalvik Executable instruction formats", "The formats"; "Dalvik bytecode": goto, packed-switch, sparse-switch,
-- fill-array-data; "Dalvik Executable format": code_item, try_item, encoded_catch_handler.
use Rattle.std.specs.Prelude.{ℕ, ◌<◌, ◌≤◌, length}
use Rattle.program_types.specs.Content.{Insn, Code}
use Rattle.program_types.specs.Formed.{insn_at, TargetHolds, PayloadHolds, TryFormed}
use Rattle.program_types.specs.Operands.{IsOperand}

-- Each operand fits its field. A target is any number of 32 bits here: whether it is that of an instruction is ruled apart.
abbrev pub FitsFields : Insn → Type 0
FitsFields i = IsOperand 4294967296 i

-- Some instructions, no more than 2147483647, each with operands that its format has.
pub record OperandsHold (c : Code) : Type 0 where
  pub some : 0 < length c.insns
  pub few : length c.insns ≤ 2147483647
  pub operands : (k : ℕ) → k < length c.insns → FitsFields (insn_at c.insns k)

-- Branches and switches target instructions.
abbrev pub TargetsHold : Code → Type 0
TargetsHold c = (k : ℕ) → k < length c.insns → TargetHolds c.insns k

-- Payloads are used by instructions of their kind.
abbrev pub PayloadsHold : Code → Type 0
PayloadsHold c = (k : ℕ) → k < length c.insns → PayloadHolds c.insns k

-- Tries cover instructions, one after the other, and have handlers.
abbrev pub TriesHold : Code → Type 0
TriesHold c = (i : ℕ) → i < length c.tries → TryFormed (length c.insns) c.tries i
