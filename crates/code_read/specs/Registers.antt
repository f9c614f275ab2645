-- The registers that the instructions of a code name.
-- Page: "Dalvik Executable format", "code_item": registers_size.
use Rattle.std.specs.Prelude.{ℕ, List, length, slice_index}
use Rattle.program_types.specs.Content.{Insn}
use Rattle.program_types.specs.Formed.{AreAmong, insn_at}
use Rattle.program_types.specs.Sizes.{addresses_of}
use Rattle.dex_base.specs.FirstFault.{FirstBroken}

-- instruction k names registers among the first `count`
abbrev pub AmongAt : ℕ → List Insn → ℕ → Type 0
AmongAt count is k = AreAmong count (insn_at is k)

-- The instruction at this address is the first that names a register past the first `count`.
abbrev pub IsPast : ℕ → List Insn → ℕ → Type 0
IsPast count is = FirstBroken (length is) (AmongAt count is) (slice_index (addresses_of is))
