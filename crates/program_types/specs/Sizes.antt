-- How many 16-bit units an instruction takes, and so where each instruction of a code begins.
-- Pages: "Dalvik Executable instruction formats", "Format IDs", whose first digit is the number of units; "Dalvik bytecode",
-- the formats of the payloads.
use Rattle.std.specs.Prelude.{ℕ, ◌+◌, ◌*◌, ◌/◌, List, [], ◌∷◌, length, map}
use Rattle.program_types.specs.Content.{Insn}
use Rattle.program_types.specs.Content as made

-- the units of an instruction
unfoldable pub insn_units : Insn → ℕ
insn_units (made.I10x op) = 1
insn_units (made.I12x op a b) = 1
insn_units (made.I11n op a b) = 1
insn_units (made.I11x op a) = 1
insn_units (made.I10t op to) = 1
insn_units (made.I20t op to) = 2
insn_units (made.I22x op a b) = 2
insn_units (made.I21t op a to) = 2
insn_units (made.I21s op a b) = 2
insn_units (made.I21h op a b) = 2
insn_units (made.I21c op a which) = 2
insn_units (made.I23x op a b c) = 2
insn_units (made.I22b op a b c) = 2
insn_units (made.I22t op a b to) = 2
insn_units (made.I22s op a b c) = 2
insn_units (made.I22c op a b which) = 2
insn_units (made.I30t op to) = 3
insn_units (made.I32x op a b) = 3
insn_units (made.I31i op a b) = 3
insn_units (made.I31t op a to) = 3
insn_units (made.I31c op a which) = 3
insn_units (made.I35c op n regs which) = 3
insn_units (made.I3rc op n first which) = 3
insn_units (made.I51l op a b) = 5
insn_units (made.Packed first to) = 4 + 2 * length to
insn_units (made.Sparse keys to) = 2 + 4 * length keys
insn_units (made.Data width bytes) = 4 + (length bytes + 1) / 2

-- where each of items of these sizes begins, the first at `at`: its address is the sum of the sizes before it
abbrev pub starts_from : ℕ → List ℕ → List ℕ
starts_from at [] = []
starts_from at (n ∷ ns) = at ∷ starts_from (at + n) ns

-- the sizes together
unfoldable pub total : List ℕ → ℕ
total [] = 0
total (n ∷ ns) = n + total ns

-- the addresses of instructions, in units from the first one on
abbrev pub addresses_of : List Insn → List ℕ
addresses_of is = starts_from 0 (map insn_units is)

-- their units together
abbrev pub length_of : List Insn → ℕ
length_of is = total (map insn_units is)
