-- The targets of offsets, by address, in the words of the pages.
-- Pages: "Dalvik Executable instruction formats", "Format IDs": the letter t, a branch target; arguments of the form +X, relative
-- instruction addresses. "Dalvik bytecode": goto, if-test, packed-switch, sparse-switch and fill-array-data; "packed-switch-payload
-- format" and "sparse-switch-payload format": targets are relative to the address of the switch opcode, not of this table.
use Rattle.std.specs.Prelude.{ℕ, ℤ, pos, ◌≡◌, ◌+ℤ◌, ◌<◌, List, [], ◌∷◌, length}
use Rattle.std.specs.List.{AllZip}
use Rattle.dex_insn.specs.Raw as raw
use Rattle.dex_insn.specs.Raw.{Raw}
use Rattle.program_types.specs.Content.{Name, Insn}
use Rattle.program_types.specs.Formed.{insn_at, insn_leads, RefersToPayload}
use Rattle.code_read.specs.Walk.{Walks, raw_at, address}
use Rattle.code_read.specs.Symbols.{ints, Resolves}
use Rattle.code_read.specs.Linked.{KeepRules}

-- the offsets in an instruction, in 16-bit units: of a branch, of what refers to a payload, and of a switch's payload
abbrev pub offsets_of : Raw → List ℤ
offsets_of (raw.I10t op offset) = offset ∷ []
offsets_of (raw.I20t op offset) = offset ∷ []
offsets_of (raw.I30t op offset) = offset ∷ []
offsets_of (raw.I21t op a offset) = offset ∷ []
offsets_of (raw.I22t op a b offset) = offset ∷ []
offsets_of (raw.I31t op a offset) = offset ∷ []
offsets_of (raw.Packed first offsets) = ints offsets
offsets_of (raw.Sparse keys offsets) = ints offsets
offsets_of _ = []

-- the offsets of instruction k count from this one: those of a switch's payload from a switch that refers to it, all others from k
abbrev pub CountFrom : List Insn → ℕ → Raw → ℕ → Type 0
CountFrom is k (raw.Packed first offsets) from = RefersToPayload is from k
CountFrom is k (raw.Sparse keys offsets) from = RefersToPayload is from k
CountFrom is k _ from = from ≡ k

-- From one instruction the offset targets the other: the one, and no other, whose address is the sum.
pub record OffsetTargets (rs : List Raw) (from : ℕ) (offset : ℤ) (to : ℕ) : Type 0 where
  pub there : to < length rs
  pub sum : pos (address rs to) ≡ (pos (address rs from) +ℤ offset)
  pub only : (n : ℕ) → n < length rs → pos (address rs n) ≡ (pos (address rs from) +ℤ offset) → n ≡ to

-- The offsets of instruction k target, one by one, the instructions that it names; they count from one instruction, and no other.
pub record TargetsByAddress (rs : List Raw) (is : List Insn) (k : ℕ) : Type 0 where
  pub from : ℕ
  pub counts : CountFrom is k (raw_at rs k) from
  pub only : (j : ℕ) → CountFrom is k (raw_at rs k) j → j ≡ from
  pub leads : AllZip (OffsetTargets rs from) (offsets_of (raw_at rs k)) (insn_leads (insn_at is k))

-- Instruction k is raw instruction k: the same operands, the name of its index, and the numbers of the instructions
-- that its offsets target by address.
pub record IsLinkedByAddress (N : ℕ → Name → Type 0) (rs : List Raw) (is : List Insn) (k : ℕ) : Type 0 where
  pub target : ℤ → ℕ
  pub resolves : Resolves N target (raw_at rs k) (insn_at is k)
  pub leads : TargetsByAddress rs is k

-- The units are the instructions, end to end, linked by address: each instruction is the raw one, in the words of the pages.
pub record SpellsInsnsByAddress (N : ℕ → Name → Type 0) (us : List ℕ) (rs : List Raw) (is : List Insn) : Type 0 where
  pub walk : Walks us rs
  pub count : length is ≡ length rs
  pub each : (k : ℕ) → k < length rs → IsLinkedByAddress N rs is k
  pub keep : KeepRules is
