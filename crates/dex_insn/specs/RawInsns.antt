-- Which units spell a raw instruction. The lists are bytes, two to a unit, from the instruction's first unit on; what stands
-- after the instruction is ignored. The formats are those of the page "Dalvik Executable instruction formats", the
-- payloads those of the page "Dalvik bytecode".
use Rattle.std.specs.Prelude.{ℕ, ◌≡◌, ◌≤◌, ◌<◌, ◌*◌, ◌+◌, ◌%◌, Some, List, [], ◌∷◌, length, drop, slice_range, nat_lt, if◌then◌else◌, ◌⊎◌}
use Rattle.dex_insn.specs.Fields.{number, field, signed, SwitchKeysRise}
use Rattle.dex_insn.specs.Opcodes.{format_of, units_of}
use Rattle.dex_insn.specs.Raw.{Raw, packed_units, sparse_units, data_units, I10x, I12x, I11n, I11x, I10t, I20t, I22x, I21t, I21s, I21h, I21c, I23x, I22b, I22t, I22s, I22c, I30t, I32x, I31i, I31t, I31c, I35c, I3rc, I51l, Packed, Sparse, Data}
use Rattle.dex_insn.specs.declared.opcode.Format.{Format}
use Rattle.dex_insn.specs.declared.opcode.Format.TheVariants.{F10x, F12x, F11n, F11x, F10t, F20t, F22x, F21t, F21s, F21h, F21c, F23x, F22b, F22t, F22s, F22c, F30t, F32x, F31i, F31t, F31c, F35c, F3rc, F51l}

-- the first unit's low byte is an opcode of the format, and the format's units are there
pub record BeginsInsn (us : List ℕ) (format : Format) (op : ℕ) : Type 0 where
  pub opcode : op ≡ field us 0 0 8
  pub kind : format_of op ≡ Some format
  pub whole : 2 * units_of format ≤ length us

-- the bits of register k, where n registers are named: 0 from n on
abbrev pub register : ℕ → ℕ → ℕ → ℕ
register n k bits = if nat_lt k n then bits else 0

-- the registers C, D, E, F, G of format 35c, of which n are named
abbrev pub registers : List ℕ → ℕ → List ℕ
registers us n = register n 0 (field us 2 0 4) ∷ register n 1 (field us 2 4 4) ∷ register n 2 (field us 2 8 4) ∷ register n 3 (field us 2 12 4) ∷ register n 4 (field us 0 8 4) ∷ []

-- an element of an array payload has 1, 2, 4 or 8 bytes
abbrev pub IsElementWidth : ℕ → Type 0
IsElementWidth width = (width ≡ 1) ⊎ ((width ≡ 2) ⊎ ((width ≡ 4) ⊎ (width ≡ 8)))

-- The units begin with this instruction. After each line stands the layout that the page gives ("Format IDs", "Formats"): a unit
-- from its high bits to its low ones, one letter four bits; op is the opcode, Ø a zero. In 35c A is the number of registers.
abbrev pub SpellsInsn : List ℕ → Raw → Type 0
SpellsInsn us (I10x op) = BeginsInsn us F10x op × (field us 0 8 8 ≡ 0)  -- ØØ|op
SpellsInsn us (I12x op a b) = BeginsInsn us F12x op × (a ≡ field us 0 8 4) × (b ≡ field us 0 12 4)  -- B|A|op
SpellsInsn us (I11n op a b) = BeginsInsn us F11n op × (a ≡ field us 0 8 4) × (b ≡ signed 4 (field us 0 12 4))  -- B|A|op
SpellsInsn us (I11x op a) = BeginsInsn us F11x op × (a ≡ field us 0 8 8)  -- AA|op
SpellsInsn us (I10t op offset) = BeginsInsn us F10t op × (offset ≡ signed 8 (field us 0 8 8))  -- AA|op
SpellsInsn us (I20t op offset) = BeginsInsn us F20t op × (field us 0 8 8 ≡ 0) × (offset ≡ signed 16 (number us 1 1))  -- ØØ|op AAAA
SpellsInsn us (I22x op a b) = BeginsInsn us F22x op × (a ≡ field us 0 8 8) × (b ≡ number us 1 1)  -- AA|op BBBB
SpellsInsn us (I21t op a offset) = BeginsInsn us F21t op × (a ≡ field us 0 8 8) × (offset ≡ signed 16 (number us 1 1))  -- AA|op BBBB
SpellsInsn us (I21s op a b) = BeginsInsn us F21s op × (a ≡ field us 0 8 8) × (b ≡ signed 16 (number us 1 1))  -- AA|op BBBB
SpellsInsn us (I21h op a b) = BeginsInsn us F21h op × (a ≡ field us 0 8 8) × (b ≡ signed 16 (number us 1 1))  -- AA|op BBBB
SpellsInsn us (I21c op a index) = BeginsInsn us F21c op × (a ≡ field us 0 8 8) × (index ≡ number us 1 1)  -- AA|op BBBB
SpellsInsn us (I23x op a b c) = BeginsInsn us F23x op × (a ≡ field us 0 8 8) × (b ≡ field us 1 0 8) × (c ≡ field us 1 8 8)  -- AA|op CC|BB
SpellsInsn us (I22b op a b c) = BeginsInsn us F22b op × (a ≡ field us 0 8 8) × (b ≡ field us 1 0 8) × (c ≡ signed 8 (field us 1 8 8))  -- AA|op CC|BB
SpellsInsn us (I22t op a b offset) = BeginsInsn us F22t op × (a ≡ field us 0 8 4) × (b ≡ field us 0 12 4) × (offset ≡ signed 16 (number us 1 1))  -- B|A|op CCCC
SpellsInsn us (I22s op a b c) = BeginsInsn us F22s op × (a ≡ field us 0 8 4) × (b ≡ field us 0 12 4) × (c ≡ signed 16 (number us 1 1))  -- B|A|op CCCC
SpellsInsn us (I22c op a b index) = BeginsInsn us F22c op × (a ≡ field us 0 8 4) × (b ≡ field us 0 12 4) × (index ≡ number us 1 1)  -- B|A|op CCCC
SpellsInsn us (I30t op offset) = BeginsInsn us F30t op × (field us 0 8 8 ≡ 0) × (offset ≡ signed 32 (number us 1 2))  -- ØØ|op AAAAlo AAAAhi
SpellsInsn us (I32x op a b) = BeginsInsn us F32x op × (field us 0 8 8 ≡ 0) × (a ≡ number us 1 1) × (b ≡ number us 2 1)  -- ØØ|op AAAA BBBB
SpellsInsn us (I31i op a b) = BeginsInsn us F31i op × (a ≡ field us 0 8 8) × (b ≡ signed 32 (number us 1 2))  -- AA|op BBBBlo BBBBhi
SpellsInsn us (I31t op a offset) = BeginsInsn us F31t op × (a ≡ field us 0 8 8) × (offset ≡ signed 32 (number us 1 2))  -- AA|op BBBBlo BBBBhi
SpellsInsn us (I31c op a index) = BeginsInsn us F31c op × (a ≡ field us 0 8 8) × (index ≡ number us 1 2)  -- AA|op BBBBlo BBBBhi
SpellsInsn us (I35c op n regs index) = BeginsInsn us F35c op × (n ≡ field us 0 12 4) × (n ≤ 5) × (index ≡ number us 1 1) × (regs ≡ registers us n)  -- A|G|op BBBB F|E|D|C
SpellsInsn us (I3rc op n first index) = BeginsInsn us F3rc op × (n ≡ field us 0 8 8) × (index ≡ number us 1 1) × (first ≡ number us 2 1)  -- AA|op BBBB CCCC
SpellsInsn us (I51l op a b) = BeginsInsn us F51l op × (a ≡ field us 0 8 8) × (b ≡ signed 64 (number us 1 4))  -- AA|op BBBBlo BBBB BBBB BBBBhi
-- packed-switch-payload: ushort ident, ushort size, int first_key, int[size] targets
SpellsInsn us (Packed first offsets) =
    (number us 0 1 ≡ 0x0100) × (2 * packed_units (number us 1 1) ≤ length us)
    × (first ≡ signed 32 (number us 2 2))
    × (offsets ≡ slice_range us 8 (8 + 4 * number us 1 1))
-- sparse-switch-payload: ushort ident, ushort size, int[size] keys, int[size] targets; the keys rise
SpellsInsn us (Sparse keys offsets) =
    (number us 0 1 ≡ 0x0200) × (2 * sparse_units (number us 1 1) ≤ length us)
    × (keys ≡ slice_range us 4 (4 + 4 * number us 1 1))
    × (offsets ≡ slice_range us (4 + 4 * number us 1 1) (4 + 8 * number us 1 1))
    × SwitchKeysRise keys (number us 1 1)
-- fill-array-data-payload: ushort ident, ushort element_width, uint size, ubyte[size * element_width] data, padded to a unit
SpellsInsn us (Data width bytes) =
    (number us 0 1 ≡ 0x0300) × (2 * data_units (number us 2 2 * width) ≤ length us)
    × (width ≡ number us 1 1) × IsElementWidth width
    × (bytes ≡ slice_range us 8 (8 + number us 2 2 * width))

-- the first unit is the identifier of a payload: a nop's opcode under 0x01, 0x02 or 0x03
abbrev pub IsPayload : List ℕ → Type 0
IsPayload us = (field us 0 0 8 ≡ 0) × (0 < field us 0 8 8) × (field us 0 8 8 ≤ 3)

-- the instruction is at unit `at` of the bytes, a payload at an even unit
pub record InsnStands (bytes : List ℕ) (at : ℕ) (r : Raw) : Type 0 where
  pub spelled : SpellsInsn (drop (2 * at) bytes) r
  pub even : IsPayload (drop (2 * at) bytes) → at % 2 ≡ 0
