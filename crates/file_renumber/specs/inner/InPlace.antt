-- What is put in place of an instruction's units when its index is replaced.
-- Pages: "Dalvik Executable instruction formats": 35c; "Dalvik bytecode": "fill-array-data-payload format".
use Rattle.std.specs.Prelude.{ℕ, ◌≡◌, ◌+◌, ◌-◌, ◌*◌, ◌/◌, ◌%◌, ◌++◌, List, drop, set, length, Bool, false, if◌then◌else◌, ◌==◌}
use Rattle.dex_insn.specs.Fields.{field}
use Rattle.dex_insn.specs.Raw as raw
use Rattle.dex_insn.specs.Raw.{Raw, units}
use Rattle.dex_insn.specs.RawInsns.{register}
use Rattle.dex_insn.specs.Written.{IsRaw, written}
use Rattle.file_renumber.specs.inner.Marked.{Columns}
use Rattle.file_renumber.specs.inner.Renumbered.{renumbered}

-- the registers C to F of format 35c, of which n are named, in a unit
abbrev pub named_unit : List ℕ → ℕ → ℕ
named_unit us n = register n 0 (field us 2 0 4) + 16 * register n 1 (field us 2 4 4) + 256 * register n 2 (field us 2 8 4) + 4096 * register n 3 (field us 2 12 4)

-- the units of format 35c with 0 for the registers that aren't named
abbrev pub with_named : List ℕ → ℕ → List ℕ
with_named us n = set (set (set us 1 (register n 4 (field us 0 8 4) + 16 * n)) 4 (named_unit us n % 256)) 5 (named_unit us n / 256)

-- a byte pads the payload: that of an array of an odd number of bytes
abbrev pub is_padded : Raw → Bool
is_padded (raw.Data width bytes) = length bytes % 2 == 1
is_padded r = false

-- n units with 0 for the byte that pads them
abbrev pub with_pad : List ℕ → Bool → ℕ → List ℕ
with_pad us padded n = if padded then set us (2 * n - 1) 0 else us

-- These are the units with what is written of the instruction, its index replaced, in front; it has n units.
pub record IsRenumbered (numbers : Columns) (old new : List ℕ) (n : ℕ) (r : Raw) : Type 0 where
  pub size : n ≡ units r
  pub is_new : new ≡ written (renumbered numbers r) ++ drop (2 * units r) old
  pub fits : IsRaw (renumbered numbers r)
