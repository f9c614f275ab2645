-- Beside Mnemonics.antt: what no promise reaches.
use Rattle.std.specs.Prelude.{ℕ, List, [], Option, Some, None}
use Rattle.std.specs.Borrow.{Bor}
use Rattle.dex_insn.specs.declared.opcode.Opcode.{Opcode}

-- the mnemonic in a row
abbrev pub mnemonic_in : Option (Opcode (Bor (List ℕ))) → List ℕ
mnemonic_in None = []
mnemonic_in (Some r) = r.mnemonic.now
