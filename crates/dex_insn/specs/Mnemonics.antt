-- The mnemonics of the table ("Dalvik bytecode", "Summary of bytecode set").
use Rattle.std.specs.Prelude.{ℕ, ◌≡◌, ◌≢◌, Bool, ◌&&◌, ◌||◌, ◌==◌, nat_le, List, [], map, get_or, Some, None}
use Rattle.dex_insn.specs.declared.opcodes.TheConstants.{OPCODES}

-- the column of the table; a text of a constant lies at no place in memory, so its rows aren't those that mnemonic_in takes
unfoldable pub mnemonics : List (List ℕ)
mnemonics = map (λ row. elim row [ None ↦ [] | Some r ↦ r.mnemonic.now ]) OPCODES

-- the mnemonic of an opcode: empty where it is unused
abbrev pub mnemonic_of : ℕ → List ℕ
mnemonic_of op = get_or mnemonics op []

-- the opcode is used and has this mnemonic
pub record IsNamed (op : ℕ) (text : List ℕ) : Type 0 where
  pub used : text ≢ []
  pub is : mnemonic_of op ≡ text

-- a byte that a mnemonic may have: a to z, 0 to 9, `-` and `/`
abbrev pub is_mnemonic_byte : ℕ → Bool
is_mnemonic_byte c = (nat_le 97 c && nat_le c 122) || (nat_le 48 c && nat_le c 57) || (c == 45) || (c == 47)
