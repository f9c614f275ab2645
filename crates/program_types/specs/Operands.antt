-- Which operands an instruction of a code can have: each fits its format, and a payload keeps its rules.
-- Pages: "Dalvik Executable instruction formats", "The formats"; "Dalvik bytecode", the formats of the payloads.
use Rattle.std.specs.Prelude.{ℕ, ℤ, pos, neg_ℤ, ◌≡◌, ◌≤◌, ◌<◌, ◌+◌, ◌%◌, ◌≤ℤ◌, ◌<ℤ◌, Option, Some, None, List, length, FitsSigned}
use Rattle.std.specs.List.{AllByRecursion, slice_get}
use Rattle.std.specs.Int.{w8, w16, w32, w64}
use Rattle.dex_insn.specs.Written.{AreRegisters}
use Rattle.dex_insn.specs.RawInsns.{IsElementWidth}
use Rattle.dex_insn.specs.Opcodes.{format_of, index_kind_of}
use Rattle.dex_insn.specs.declared.opcode.IndexKind.{IndexKind}
use Rattle.dex_insn.specs.declared.opcode.Format.TheVariants.{F10x, F12x, F11n, F11x, F10t, F20t, F22x, F21t, F21s, F21h, F21c, F23x, F22b, F22t, F22s, F22c, F30t, F32x, F31i, F31t, F31c, F35c, F3rc, F51l}
use Rattle.program_types.specs.Content.{Name, Insn}
use Rattle.program_types.specs.Kinds.{IsOfKind}
use Rattle.program_types.specs.Content as made

-- the name is of the kind that an opcode's index denotes
abbrev pub IsOfIndexKind : Option IndexKind → Name → Type 0
IsOfIndexKind None which = ⊥
IsOfIndexKind (Some kind) which = IsOfKind kind which

-- the keys of a sparse switch rise strictly
abbrev pub AreRisingKeys : List ℤ → Type 0
AreRisingKeys keys = (i : ℕ) (a b : ℤ) → slice_get keys i ≡ Some a → slice_get keys (i + 1) ≡ Some b → a <ℤ b

-- the operands of an instruction, in a code of `count` instructions
abbrev pub IsOperand : ℕ → Insn → Type 0
IsOperand count (made.I10x op) = (format_of op ≡ Some F10x)
IsOperand count (made.I12x op a b) = (format_of op ≡ Some F12x) × (a < 16) × (b < 16)
IsOperand count (made.I11n op a b) = (format_of op ≡ Some F11n) × (a < 16) × (neg_ℤ (pos 8) ≤ℤ b) × (b <ℤ pos 8)
IsOperand count (made.I11x op a) = (format_of op ≡ Some F11x) × (a < 256)
IsOperand count (made.I10t op to) = (format_of op ≡ Some F10t) × (to < count)
IsOperand count (made.I20t op to) = (format_of op ≡ Some F20t) × (to < count)
IsOperand count (made.I22x op a b) = (format_of op ≡ Some F22x) × (a < 256) × (b < 65536)
IsOperand count (made.I21t op a to) = (format_of op ≡ Some F21t) × (a < 256) × (to < count)
IsOperand count (made.I21s op a b) = (format_of op ≡ Some F21s) × (a < 256) × FitsSigned w16 b
IsOperand count (made.I21h op a b) = (format_of op ≡ Some F21h) × (a < 256) × FitsSigned w16 b
IsOperand count (made.I21c op a which) = (format_of op ≡ Some F21c) × (a < 256) × IsOfIndexKind (index_kind_of op) which
IsOperand count (made.I23x op a b c) = (format_of op ≡ Some F23x) × (a < 256) × (b < 256) × (c < 256)
IsOperand count (made.I22b op a b c) = (format_of op ≡ Some F22b) × (a < 256) × (b < 256) × FitsSigned w8 c
IsOperand count (made.I22t op a b to) = (format_of op ≡ Some F22t) × (a < 16) × (b < 16) × (to < count)
IsOperand count (made.I22s op a b c) = (format_of op ≡ Some F22s) × (a < 16) × (b < 16) × FitsSigned w16 c
IsOperand count (made.I22c op a b which) = (format_of op ≡ Some F22c) × (a < 16) × (b < 16) × IsOfIndexKind (index_kind_of op) which
IsOperand count (made.I30t op to) = (format_of op ≡ Some F30t) × (to < count)
IsOperand count (made.I32x op a b) = (format_of op ≡ Some F32x) × (a < 65536) × (b < 65536)
IsOperand count (made.I31i op a b) = (format_of op ≡ Some F31i) × (a < 256) × FitsSigned w32 b
IsOperand count (made.I31t op a to) = (format_of op ≡ Some F31t) × (a < 256) × (to < count)
IsOperand count (made.I31c op a which) = (format_of op ≡ Some F31c) × (a < 256) × IsOfIndexKind (index_kind_of op) which
IsOperand count (made.I35c op n regs which) = (format_of op ≡ Some F35c) × (n ≤ 5) × AreRegisters n regs × IsOfIndexKind (index_kind_of op) which
IsOperand count (made.I3rc op n first which) = (format_of op ≡ Some F3rc) × (n < 256) × (first < 65536) × IsOfIndexKind (index_kind_of op) which
IsOperand count (made.I51l op a b) = (format_of op ≡ Some F51l) × (a < 256) × FitsSigned w64 b
IsOperand count (made.Packed first targets) = FitsSigned w32 first × (length targets ≤ 65535) × AllByRecursion (λ to. to < count) targets
IsOperand count (made.Sparse keys targets) = (length keys ≡ length targets) × (length targets ≤ 65535) × AllByRecursion (λ key. FitsSigned w32 key) keys × AreRisingKeys keys × AllByRecursion (λ to. to < count) targets
IsOperand count (made.Data width bytes) = IsElementWidth width × (length bytes % width ≡ 0) × (length bytes ≤ 4294967295) × AllByRecursion (λ byte. byte < 256) bytes
