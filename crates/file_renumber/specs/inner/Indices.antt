-- The index of a raw instruction.
-- Page: "Dalvik Executable instruction formats": the letter c of a format's ID.
use Rattle.std.specs.Prelude.{◌≡◌, ℕ}
use Rattle.dex_insn.specs.Raw as raw
use Rattle.dex_insn.specs.Raw.{Raw}

-- the instruction has this opcode, and this index
abbrev pub IsIndex : Raw → ℕ → ℕ → Type 0
IsIndex (raw.I21c op a index) o i = (op ≡ o) × (index ≡ i)
IsIndex (raw.I22c op a b index) o i = (op ≡ o) × (index ≡ i)
IsIndex (raw.I31c op a index) o i = (op ≡ o) × (index ≡ i)
IsIndex (raw.I35c op n regs index) o i = (op ≡ o) × (index ≡ i)
IsIndex (raw.I3rc op n first index) o i = (op ≡ o) × (index ≡ i)
IsIndex r o i = ⊥
