-- Which raw instructions can be written, and their bytes ("Dalvik Executable instruction formats"; payloads: "Dalvik bytecode").
use Rattle.std.specs.Prelude.{ℕ, ◌≡◌, ◌≤◌, ◌<◌, ◌*◌, ◌+◌, ◌/◌, ◌%◌, ◌++◌, Some, List, [], ◌∷◌, length, slice_index, if◌then◌else◌, ◌==◌, pos, neg_ℤ, ◌≤ℤ◌, ◌<ℤ◌, FitsSigned}
use Rattle.std.specs.Int.{cast_unsigned, w8, w16, w32, w64}
use Rattle.dex_insn.specs.Fields.{SwitchKeysRise}
use Rattle.dex_insn.specs.Opcodes.{format_of}
use Rattle.dex_insn.specs.RawInsns.{IsElementWidth}
use Rattle.dex_insn.specs.declared.opcode.Format.TheVariants.{F10x, F12x, F11n, F11x, F10t, F20t, F22x, F21t, F21s, F21h, F21c, F23x, F22b, F22t, F22s, F22c, F30t, F32x, F31i, F31t, F31c, F35c, F3rc, F51l}
use Rattle.dex_insn.specs.Raw.{Raw, I10x, I12x, I11n, I11x, I10t, I20t, I22x, I21t, I21s, I21h, I21c, I23x, I22b, I22t, I22s, I22c, I30t, I32x, I31i, I31t, I31c, I35c, I3rc, I51l, Packed, Sparse, Data}

-- the five registers of format 35c fit four bits, and are 0 from n on
pub record AreRegisters (n : ℕ) (regs : List ℕ) : Type 0 where
  pub count : length regs ≡ 5
  pub fit : (k : ℕ) → k < n → slice_index regs k < 16
  pub unused : (k : ℕ) → n ≤ k → slice_index regs k ≡ 0

-- the opcode is one of the format, and each operand fits its field; a payload keeps its rules
abbrev pub IsRaw : Raw → Type 0
IsRaw (I10x op) = (format_of op ≡ Some F10x)
IsRaw (I12x op a b) = (format_of op ≡ Some F12x) × (a < 16) × (b < 16)
IsRaw (I11n op a b) = (format_of op ≡ Some F11n) × (a < 16) × (neg_ℤ (pos 8) ≤ℤ b) × (b <ℤ pos 8)
IsRaw (I11x op a) = (format_of op ≡ Some F11x) × (a < 256)
IsRaw (I10t op offset) = (format_of op ≡ Some F10t) × (FitsSigned w8 offset)
IsRaw (I20t op offset) = (format_of op ≡ Some F20t) × (FitsSigned w16 offset)
IsRaw (I22x op a b) = (format_of op ≡ Some F22x) × (a < 256) × (b < 65536)
IsRaw (I21t op a offset) = (format_of op ≡ Some F21t) × (FitsSigned w16 offset) × (a < 256)
IsRaw (I21s op a b) = (format_of op ≡ Some F21s) × (a < 256) × (FitsSigned w16 b)
IsRaw (I21h op a b) = (format_of op ≡ Some F21h) × (a < 256) × (FitsSigned w16 b)
IsRaw (I21c op a index) = (format_of op ≡ Some F21c) × (index < 65536) × (a < 256)
IsRaw (I23x op a b c) = (format_of op ≡ Some F23x) × (a < 256) × (b < 256) × (c < 256)
IsRaw (I22b op a b c) = (format_of op ≡ Some F22b) × (a < 256) × (b < 256) × (FitsSigned w8 c)
IsRaw (I22t op a b offset) = (format_of op ≡ Some F22t) × (a < 16) × (b < 16) × (FitsSigned w16 offset)
IsRaw (I22s op a b c) = (format_of op ≡ Some F22s) × (a < 16) × (b < 16) × (FitsSigned w16 c)
IsRaw (I22c op a b index) = (format_of op ≡ Some F22c) × (a < 16) × (b < 16) × (index < 65536)
IsRaw (I30t op offset) = (format_of op ≡ Some F30t) × (FitsSigned w32 offset)
IsRaw (I32x op a b) = (format_of op ≡ Some F32x) × (a < 65536) × (b < 65536)
IsRaw (I31i op a b) = (format_of op ≡ Some F31i) × (a < 256) × (FitsSigned w32 b)
IsRaw (I31t op a offset) = (format_of op ≡ Some F31t) × (a < 256) × (FitsSigned w32 offset)
IsRaw (I31c op a index) = (format_of op ≡ Some F31c) × (a < 256) × (index < 4294967296)
IsRaw (I35c op n regs index) = (format_of op ≡ Some F35c) × (n ≤ 5) × (index < 65536) × (AreRegisters n regs)
IsRaw (I3rc op n first index) = (format_of op ≡ Some F3rc) × (index < 65536) × (n < 256) × (first < 65536)
IsRaw (I51l op a b) = (format_of op ≡ Some F51l) × (a < 256) × (FitsSigned w64 b)
IsRaw (Packed first offsets) = FitsSigned w32 first × (length offsets % 4 ≡ 0) × (length offsets / 4 < 65536)
IsRaw (Sparse keys offsets) = (length keys % 4 ≡ 0) × (length offsets ≡ length keys) × (length keys / 4 < 65536)
    × SwitchKeysRise keys (length keys / 4)
IsRaw (Data width bytes) = IsElementWidth width × (length bytes % width ≡ 0) × (length bytes / width < 4294967296)

-- the bytes of units, the low byte first
abbrev pub bytes_of : List ℕ → List ℕ
bytes_of [] = []
bytes_of (u ∷ us) = u % 256 ∷ u / 256 % 256 ∷ bytes_of us

-- the bytes of the units that are written: registers that aren't named and the byte that pads an array payload are 0
unfoldable pub written : Raw → List ℕ
written (I10x op) = bytes_of (op ∷ [])
written (I12x op a b) = bytes_of ((op + 256 * a + 4096 * b) ∷ [])
written (I11n op a b) = bytes_of ((op + 256 * a + 4096 * (cast_unsigned w8 b % 16)) ∷ [])
written (I11x op a) = bytes_of ((op + 256 * a) ∷ [])
written (I10t op offset) = bytes_of ((op + 256 * (cast_unsigned w32 offset % 256)) ∷ [])
written (I20t op offset) = bytes_of (op ∷ (cast_unsigned w32 offset % 65536) ∷ [])
written (I22x op a b) = bytes_of ((op + 256 * a) ∷ b ∷ [])
written (I21t op a offset) = bytes_of ((op + 256 * a) ∷ (cast_unsigned w32 offset % 65536) ∷ [])
written (I21s op a b) = bytes_of ((op + 256 * a) ∷ (cast_unsigned w16 b) ∷ [])
written (I21h op a b) = bytes_of ((op + 256 * a) ∷ (cast_unsigned w16 b) ∷ [])
written (I21c op a index) = bytes_of ((op + 256 * a) ∷ index ∷ [])
written (I23x op a b c) = bytes_of ((op + 256 * a) ∷ (b + 256 * c) ∷ [])
written (I22b op a b c) = bytes_of ((op + 256 * a) ∷ (b + 256 * cast_unsigned w8 c) ∷ [])
written (I22t op a b offset) = bytes_of ((op + 256 * a + 4096 * b) ∷ (cast_unsigned w32 offset % 65536) ∷ [])
written (I22s op a b c) = bytes_of ((op + 256 * a + 4096 * b) ∷ (cast_unsigned w16 c) ∷ [])
written (I22c op a b index) = bytes_of ((op + 256 * a + 4096 * b) ∷ index ∷ [])
written (I30t op offset) = bytes_of (op ∷ (cast_unsigned w32 offset % 65536) ∷ (cast_unsigned w32 offset / 65536) ∷ [])
written (I32x op a b) = bytes_of (op ∷ a ∷ b ∷ [])
written (I31i op a b) = bytes_of ((op + 256 * a) ∷ (cast_unsigned w32 b % 65536) ∷ (cast_unsigned w32 b / 65536) ∷ [])
written (I31t op a offset) = bytes_of ((op + 256 * a) ∷ (cast_unsigned w32 offset % 65536) ∷ (cast_unsigned w32 offset / 65536) ∷ [])
written (I31c op a index) = bytes_of ((op + 256 * a) ∷ (index % 65536) ∷ (index / 65536) ∷ [])
written (I35c op n regs index) = bytes_of ((op + 256 * slice_index regs 4 + 4096 * n) ∷ index ∷ (slice_index regs 0 + 16 * slice_index regs 1 + 256 * slice_index regs 2 + 4096 * slice_index regs 3) ∷ [])
written (I3rc op n first index) = bytes_of ((op + 256 * n) ∷ index ∷ first ∷ [])
written (I51l op a b) = bytes_of ((op + 256 * a) ∷ (cast_unsigned w64 b % 65536) ∷ (cast_unsigned w64 b / 65536 % 65536) ∷ (cast_unsigned w64 b / 4294967296 % 65536) ∷ (cast_unsigned w64 b / 281474976710656) ∷ [])
written (Packed first offsets) =
    bytes_of (0x0100 ∷ (length offsets / 4) ∷ (cast_unsigned w32 first % 65536) ∷ (cast_unsigned w32 first / 65536) ∷ []) ++ offsets
written (Sparse keys offsets) = bytes_of (0x0200 ∷ (length keys / 4) ∷ []) ++ keys ++ offsets
written (Data width bytes) =
    bytes_of (0x0300 ∷ width ∷ (length bytes / width % 65536) ∷ (length bytes / width / 65536) ∷ []) ++ bytes
    ++ (if length bytes % 2 == 0 then [] else 0 ∷ [])
