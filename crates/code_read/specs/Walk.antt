-- The instructions of a code, end to end, and the unit at which each begins.
-- Page: "Dalvik Executable format", "code_item": insns; "Dalvik bytecode": addresses are in 16-bit units from the first one.
use Rattle.std.specs.Prelude.{ℕ, ◌≡◌, ◌+◌, ◌*◌, ◌/◌, ◌<◌, List, [], ◌∷◌, length, map, slice_index, slice_index_or}
use Rattle.dex_base.specs.declared.fault.Fault.{Fault}
use Rattle.dex_insn.specs.Raw as raw
use Rattle.dex_insn.specs.Raw.{Raw, units}
use Rattle.dex_insn.specs.RawInsns.{InsnStands}
use Rattle.dex_insn.specs.Flaws.{IsFaultAt}
use Rattle.program_types.specs.Sizes.{starts_from}

-- the instructions are end to end from unit `at` to unit `end`
abbrev pub Run : List ℕ → ℕ → List Raw → ℕ → Type 0
Run us at [] end = at ≡ end
Run us at (r ∷ rs) end = InsnStands us at r × Run us (at + units r) rs end

-- the units are these instructions
pub record Walks (us : List ℕ) (rs : List Raw) : Type 0 where
  pub run : Run us 0 rs (length us / 2)

-- the addresses of the instructions
abbrev pub starts : List Raw → List ℕ
starts rs = starts_from 0 (map units rs)

-- instruction k: a nop past the end
unfoldable pub raw_at : List Raw → ℕ → Raw
raw_at rs k = slice_index_or rs k (raw.I10x 0)

-- the address of instruction k
abbrev pub address : List Raw → ℕ → ℕ
address rs k = slice_index (starts rs) k

-- After the instructions so far there is none, for this reason; the first unit is at the place `base`.
pub record IsWalkFault (us : List ℕ) (base : ℕ) (fault : Fault) : Type 0 where
  pub before : List Raw
  pub at : ℕ
  pub run : Run us 0 before at
  pub inside : 2 * at < length us
  pub inner : Fault
  pub broken : IsFaultAt us at inner
  pub is : fault ≡ record { code = inner.code; place = base + 2 * at }
