-- The row of an opcode in the table ("Dalvik bytecode", "Summary of bytecode set").
use Rattle.std.specs.Prelude.{ℕ, Bool, true, false, List, map, get_or, Option, Some, None, option_map}
use Rattle.dex_insn.specs.declared.opcode.Opcode.{Opcode}
use Rattle.dex_insn.specs.declared.opcode.IndexKind.{IndexKind}
use Rattle.dex_insn.specs.declared.opcode.Format.{Format}
use Rattle.dex_insn.specs.declared.opcode.Format.TheVariants.{F10x, F12x, F11n, F11x, F10t, F21c, F22c, F30t, F32x, F31i, F31t, F31c, F35c, F3rc, F51l}
use Rattle.dex_insn.specs.declared.opcodes.TheConstants.{OPCODES}

-- the format in a row
abbrev pub format_in : {M : Type 0} → Option (Opcode M) → Option Format
format_in row = option_map (λ r. r.format) row

-- the table of the index in a row
abbrev pub index_kind_in : {M : Type 0} → Option (Opcode M) → Option IndexKind
index_kind_in None = None
index_kind_in (Some r) = r.index

-- the column of the formats
unfoldable pub formats : List (Option Format)
formats = map format_in OPCODES

-- the column of the index kinds
unfoldable pub index_kinds : List (Option IndexKind)
index_kinds = map index_kind_in OPCODES

-- the format of an opcode: none where it is unused
abbrev pub format_of : ℕ → Option Format
format_of op = get_or formats op None

-- the table that the index of its instructions is a row of: none where they have no index
abbrev pub index_kind_of : ℕ → Option IndexKind
index_kind_of op = get_or index_kinds op None

-- how many units an instruction of the format has: the first digit of the format's ID
-- ("Dalvik Executable instruction formats", "Format IDs")
abbrev pub units_of : Format → ℕ
units_of F10x = 1
units_of F12x = 1
units_of F11n = 1
units_of F11x = 1
units_of F10t = 1
units_of F30t = 3
units_of F32x = 3
units_of F31i = 3
units_of F31t = 3
units_of F31c = 3
units_of F35c = 3
units_of F3rc = 3
units_of F51l = 5
units_of _ = 2

-- the format has an index: the letter of its ID is c
abbrev pub format_has_index : Format → Bool
format_has_index F21c = true
format_has_index F22c = true
format_has_index F31c = true
format_has_index F35c = true
format_has_index F3rc = true
format_has_index _ = false

-- the index is a row of a table
abbrev pub names_table : Option IndexKind → Bool
names_table None = false
names_table (Some kind) = true
