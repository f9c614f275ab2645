-- Beside Fits.antt: what no promise reaches.
use Rattle.std.specs.Prelude.{ℕ, ⊤}
use Rattle.program_types.specs.Content.{Name, Insn}
use Rattle.program_types.specs.Content as made
use Rattle.code_write.specs.Fits.{HasIndexBelow}

-- the name in the instruction, if it has one, fits its field
abbrev pub NameFits : (ℕ → Name → Type 0) → Insn → Type 0
NameFits N (made.I21c op a which) = HasIndexBelow N 65536 which
NameFits N (made.I22c op a b which) = HasIndexBelow N 65536 which
NameFits N (made.I31c op a which) = HasIndexBelow N 4294967296 which
NameFits N (made.I35c op n regs which) = HasIndexBelow N 65536 which
NameFits N (made.I3rc op n first which) = HasIndexBelow N 65536 which
NameFits N _ = ⊤
