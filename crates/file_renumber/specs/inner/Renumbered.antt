-- Raw instructions whose indices are replaced by the numbers of their rows.
-- Pages: "Dalvik bytecode": string@, type@, field@ and method@ indices; "Dalvik Executable instruction formats": the
-- letter c of a format's ID.
use Rattle.std.specs.Prelude.{◌≡◌, ℕ, ◌<◌, length, slice_index, Option, Some, None, ⊤}
use Rattle.dex_insn.specs.Raw as raw
use Rattle.dex_insn.specs.Raw.{Raw}
use Rattle.dex_insn.specs.Written.{IsRaw}
use Rattle.dex_insn.specs.Opcodes.{index_kind_of}
use Rattle.dex_insn.specs.declared.opcode.IndexKind.{IndexKind}
use Rattle.file_renumber.specs.inner.Marked.{Columns}
use Rattle.file_renumber.specs.inner.Numbers.{column_of}

-- the number of row i of this table
abbrev pub number_in : Columns → Option IndexKind → ℕ → ℕ
number_in numbers None i = i
number_in numbers (Some table) i = slice_index (column_of numbers table) i

-- the instruction with the number of the row that its index, if it has one, stands for
abbrev pub renumbered : Columns → Raw → Raw
renumbered numbers (raw.I21c op a index) = raw.I21c op a (number_in numbers (index_kind_of op) index)
renumbered numbers (raw.I22c op a b index) = raw.I22c op a b (number_in numbers (index_kind_of op) index)
renumbered numbers (raw.I31c op a index) = raw.I31c op a (number_in numbers (index_kind_of op) index)
renumbered numbers (raw.I35c op n regs index) = raw.I35c op n regs (number_in numbers (index_kind_of op) index)
renumbered numbers (raw.I3rc op n first index) = raw.I3rc op n first (number_in numbers (index_kind_of op) index)
renumbered numbers r = r

-- Row i of the table that an instruction with this opcode names has a number.
pub record HasNumber (numbers : Columns) (op i : ℕ) : Type 0 where
  pub table : IndexKind
  pub index_kind : index_kind_of op ≡ Some table
  pub within : i < length (column_of numbers table)

-- Row i of the table that an instruction with this opcode names has a number of 16 bits.
pub record HasShortNumber (numbers : Columns) (op i : ℕ) : Type 0 where
  pub has : HasNumber numbers op i
  pub short : number_in numbers (index_kind_of op) i < 65536

-- the row that the instruction's index, if it has one, stands for has a number that fits the index's field
abbrev pub IsNumbered : Columns → Raw → Type 0
IsNumbered numbers (raw.I21c op a index) = HasShortNumber numbers op index
IsNumbered numbers (raw.I22c op a b index) = HasShortNumber numbers op index
IsNumbered numbers (raw.I31c op a index) = HasNumber numbers op index
IsNumbered numbers (raw.I35c op n regs index) = HasShortNumber numbers op index
IsNumbered numbers (raw.I3rc op n first index) = HasShortNumber numbers op index
IsNumbered numbers r = ⊤

-- The instruction can be written, and with the number for its index, if it has one.
pub record CanBeRenumbered (numbers : Columns) (r : Raw) : Type 0 where
  pub fits : IsRaw r
  pub numbered : IsNumbered numbers r
