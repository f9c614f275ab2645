-- The content of a raw instruction, without the place of its bytes in memory: the operands by the names that the page
-- "Dalvik Executable instruction formats" gives them, and the payloads of the page "Dalvik bytecode".
use Rattle.std.specs.Prelude.{ℕ, ℤ, List, length, Bool, true, false, ◌+◌, ◌*◌, ◌/◌}
use Rattle.dex_insn.specs.declared.raw.RawInsn.{RawInsn}
use Rattle.dex_insn.specs.declared.raw.RawInsn.TheVariants as made

-- an instruction of each format: its opcode, then its operands; of 35c the count, the five registers, the index; of a payload
-- the first key, the keys, the offsets and the elements as their bytes in the units
pub data Raw : Type 0 where
  I10x : ℕ → Raw
  I12x : ℕ → ℕ → ℕ → Raw
  I11n : ℕ → ℕ → ℤ → Raw
  I11x : ℕ → ℕ → Raw
  I10t : ℕ → ℤ → Raw
  I20t : ℕ → ℤ → Raw
  I22x : ℕ → ℕ → ℕ → Raw
  I21t : ℕ → ℕ → ℤ → Raw
  I21s : ℕ → ℕ → ℤ → Raw
  I21h : ℕ → ℕ → ℤ → Raw
  I21c : ℕ → ℕ → ℕ → Raw
  I23x : ℕ → ℕ → ℕ → ℕ → Raw
  I22b : ℕ → ℕ → ℕ → ℤ → Raw
  I22t : ℕ → ℕ → ℕ → ℤ → Raw
  I22s : ℕ → ℕ → ℕ → ℤ → Raw
  I22c : ℕ → ℕ → ℕ → ℕ → Raw
  I30t : ℕ → ℤ → Raw
  I32x : ℕ → ℕ → ℕ → Raw
  I31i : ℕ → ℕ → ℤ → Raw
  I31t : ℕ → ℕ → ℤ → Raw
  I31c : ℕ → ℕ → ℕ → Raw
  I35c : ℕ → ℕ → List ℕ → ℕ → Raw
  I3rc : ℕ → ℕ → ℕ → ℕ → Raw
  I51l : ℕ → ℕ → ℤ → Raw
  Packed : ℤ → List ℕ → Raw
  Sparse : List ℕ → List ℕ → Raw
  Data : ℕ → List ℕ → Raw

-- the content of an instruction in memory
unfoldable pub raw : RawInsn → Raw
raw (made.I10x op) = I10x op
raw (made.I12x op a b) = I12x op a b
raw (made.I11n op a b) = I11n op a b
raw (made.I11x op a) = I11x op a
raw (made.I10t op offset) = I10t op offset
raw (made.I20t op offset) = I20t op offset
raw (made.I22x op a b) = I22x op a b
raw (made.I21t op a offset) = I21t op a offset
raw (made.I21s op a b) = I21s op a b
raw (made.I21h op a b) = I21h op a b
raw (made.I21c op a index) = I21c op a index
raw (made.I23x op a b c) = I23x op a b c
raw (made.I22b op a b c) = I22b op a b c
raw (made.I22t op a b offset) = I22t op a b offset
raw (made.I22s op a b c) = I22s op a b c
raw (made.I22c op a b index) = I22c op a b index
raw (made.I30t op offset) = I30t op offset
raw (made.I32x op a b) = I32x op a b
raw (made.I31i op a b) = I31i op a b
raw (made.I31t op a offset) = I31t op a offset
raw (made.I31c op a index) = I31c op a index
raw (made.I35c op n regs index) = I35c op n regs index
raw (made.I3rc op n first index) = I3rc op n first index
raw (made.I51l op a b) = I51l op a b
raw (made.Packed first offsets) = Packed first offsets.now
raw (made.Sparse keys offsets) = Sparse keys.now offsets.now
raw (made.Data width bytes) = Data width bytes.now

-- the units of a packed-switch payload of n targets ("Dalvik bytecode", "packed-switch-payload format")
abbrev pub packed_units : ℕ → ℕ
packed_units n = 4 + 2 * n

-- of a sparse-switch payload of n keys ("sparse-switch-payload format")
abbrev pub sparse_units : ℕ → ℕ
sparse_units n = 2 + 4 * n

-- of an array payload of n bytes ("fill-array-data-payload format")
abbrev pub data_units : ℕ → ℕ
data_units n = 4 + (n + 1) / 2

-- the number of units of the instruction
unfoldable pub units : Raw → ℕ
units (I10x op) = 1
units (I12x op a b) = 1
units (I11n op a b) = 1
units (I11x op a) = 1
units (I10t op offset) = 1
units (I20t op offset) = 2
units (I22x op a b) = 2
units (I21t op a offset) = 2
units (I21s op a b) = 2
units (I21h op a b) = 2
units (I21c op a index) = 2
units (I23x op a b c) = 2
units (I22b op a b c) = 2
units (I22t op a b offset) = 2
units (I22s op a b c) = 2
units (I22c op a b index) = 2
units (I30t op offset) = 3
units (I32x op a b) = 3
units (I31i op a b) = 3
units (I31t op a offset) = 3
units (I31c op a index) = 3
units (I35c op n regs index) = 3
units (I3rc op n first index) = 3
units (I51l op a b) = 5
units (Packed first offsets) = packed_units (length offsets / 4)
units (Sparse keys offsets) = sparse_units (length keys / 4)
units (Data width bytes) = data_units (length bytes)

-- it is a payload, which no opcode begins
unfoldable pub is_payload : Raw → Bool
is_payload (Packed first offsets) = true
is_payload (Sparse keys offsets) = true
is_payload (Data width bytes) = true
is_payload _ = false
