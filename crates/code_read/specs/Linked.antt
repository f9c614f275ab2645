-- Which units encode which instructions of a code. The raw instructions are linked: each offset becomes the number of its target
-- instruction. The linked instructions keep the rules of programs.
-- Pages: "Dalvik bytecode": goto, packed-switch, sparse-switch, fill-array-data and the notes on branch offsets; "Dalvik
-- Executable instruction formats".
use Rattle.std.specs.Prelude.{ℕ, ℤ, ◌≡◌, ◌<◌, List, length, unwrap_or, Option, Some, None}
use Rattle.dex_insn.specs.Raw as raw
use Rattle.dex_insn.specs.Raw.{Raw}
use Rattle.program_types.specs.Content.{Name, Insn}
use Rattle.program_types.specs.Formed.{insn_at, TargetHolds, PayloadHolds}
use Rattle.program_types.specs.declared.payload.Payload.{Payload}
use Rattle.program_types.specs.declared.payload.Payload.TheVariants as payload
use Rattle.code_rules.specs.First.{AllHold}
use Rattle.code_rules.specs.Branches.{IsOrigin}
use Rattle.code_read.specs.Places.{target_at}
use Rattle.code_read.specs.Walk.{Walks, starts, raw_at, address}
use Rattle.code_read.specs.Symbols.{Resolves, InsnHasName}

-- the number of the target instruction of an offset from the address `base`: if there is none, the number after the last
unfoldable pub target_number : List ℕ → ℕ → ℤ → ℕ
target_number ss base offset = unwrap_or (target_at ss base offset) (length ss)

-- which payload it is
unfoldable pub payload_of : Raw → Option Payload
payload_of (raw.Packed first offsets) = Some payload.PackedSwitch
payload_of (raw.Sparse keys offsets) = Some payload.SparseSwitch
payload_of (raw.Data width bytes) = Some payload.Array
payload_of _ = None

-- the index of instruction k, if it has one, denotes a name
abbrev pub NameHolds : (ℕ → Name → Type 0) → List Raw → ℕ → Type 0
NameHolds N rs k = InsnHasName N (raw_at rs k)

-- Instruction k is raw instruction k, linked from its origin.
pub record IsLinked (N : ℕ → Name → Type 0) (rs : List Raw) (is : List Insn) (k : ℕ) : Type 0 where
  pub origin : ℕ
  pub counts : IsOrigin is k origin
  pub resolves : Resolves N (target_number (starts rs) (address rs origin)) (raw_at rs k) (insn_at is k)

-- The instructions are the raw ones, linked.
pub record AreLinked (N : ℕ → Name → Type 0) (rs : List Raw) (is : List Insn) : Type 0 where
  pub count : length is ≡ length rs
  pub each : (k : ℕ) → k < length rs → IsLinked N rs is k

-- Branches, switches and payloads are as they have to be.
pub record KeepRules (is : List Insn) : Type 0 where
  pub targets : AllHold (TargetHolds is) (length is)
  pub payloads : AllHold (PayloadHolds is) (length is)

-- The units are the instructions, end to end, linked.
pub record SpellsInsns (N : ℕ → Name → Type 0) (us : List ℕ) (rs : List Raw) (is : List Insn) : Type 0 where
  pub walk : Walks us rs
  pub linked : AreLinked N rs is
  pub keep : KeepRules is
