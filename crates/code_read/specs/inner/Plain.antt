-- Codes that have nothing to do with payloads, read at once: what the contracts of private functions cite.
use Rattle.std.specs.Prelude.{ℕ, ◌≡◌, List, length, Bool, true, false}
use Rattle.dex_insn.specs.Raw as raw
use Rattle.dex_insn.specs.Raw.{Raw}
use Rattle.program_types.specs.Content.{Name, Insn}
use Rattle.program_types.specs.Formed.{AreAmong}
use Rattle.code_rules.specs.inner.Branches.{BranchStays}
use Rattle.code_rules.specs.First.{AllHold}
use Rattle.code_read.specs.Linked.{target_number}
use Rattle.code_read.specs.Symbols.{Resolves}
use Rattle.code_read.specs.inner.InsnReading.{ReadInsns}
use Rattle.code_read.specs.Registers.{AmongAt}

-- it neither is a payload nor refers to one
unfoldable pub is_plain : Raw → Bool
is_plain (raw.I31t op a offset) = false
is_plain (raw.Packed first offsets) = false
is_plain (raw.Sparse keys offsets) = false
is_plain (raw.Data width bytes) = false
is_plain _ = true

-- The raw instruction at this unit has nothing to do with payloads, names registers of the code alone, and resolves to this one, number k,
-- where instructions begin at these units: a branch targets one of them, and another one if it has to.
pub record ResolvesAtOnce (N : ℕ → Name → Type 0) (begins : List ℕ) (count at k : ℕ) (r : Raw) (i : Insn) : Type 0 where
  pub plain : is_plain r ≡ true
  pub leads : BranchStays (length begins) k i
  pub among : AreAmong count i
  pub resolves : Resolves N (target_number begins at) r i

-- The units spell these instructions, which begin at these units and name registers of the code alone.
pub record ArePlain (N : ℕ → Name → Type 0) (us begins : List ℕ) (count : ℕ) (is : List Insn) : Type 0 where
  pub read : ReadInsns N us begins is
  pub among : AllHold (AmongAt count is) (length is)
