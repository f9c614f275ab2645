-- The meaning of a raw instruction: an index denotes a name, and an offset has a target instruction.
-- Page: "Dalvik bytecode": string@, type@, field@ and method@ indices, and "Dalvik Executable instruction formats": the letters
-- c and t of a format's ID.
use Rattle.std.specs.Prelude.{ℕ, ℤ, ◌≡◌, zero, suc, ◌+◌, ◌/◌, List, [], ◌∷◌, length, map, ⊤}
use Rattle.dex_insn.specs.Raw as raw
use Rattle.dex_insn.specs.Raw.{Raw}
use Rattle.dex_insn.specs.Fields.{int_at}
use Rattle.dex_insn.specs.Opcodes.{index_kind_of}
use Rattle.program_types.specs.Operands.{IsOfIndexKind}
use Rattle.program_types.specs.Content.{Name, OfText, Insn}
use Rattle.program_types.specs.Content as made

-- ---- names

-- Index i of an instruction with this opcode denotes the name; N relates an index to its name.
pub record IndexStandsFor (N : ℕ → Name → Type 0) (op i : ℕ) (which : Name) : Type 0 where
  pub kind : IsOfIndexKind (index_kind_of op) which
  pub stands : N i which

-- index i of an instruction with this opcode denotes some name
abbrev pub SomeName : (ℕ → Name → Type 0) → ℕ → ℕ → Type 0
SomeName N op i = (which : Name) × IndexStandsFor N op i which

-- the instruction's index, if it has one, denotes the name
abbrev pub InsnNames : (ℕ → Name → Type 0) → Raw → Name → Type 0
InsnNames N (raw.I21c op a index) which = IndexStandsFor N op index which
InsnNames N (raw.I22c op a b index) which = IndexStandsFor N op index which
InsnNames N (raw.I31c op a index) which = IndexStandsFor N op index which
InsnNames N (raw.I35c op n regs index) which = IndexStandsFor N op index which
InsnNames N (raw.I3rc op n first index) which = IndexStandsFor N op index which
InsnNames N _ which = ⊤

-- the instruction's index, if it has one, denotes some name
abbrev pub InsnHasName : (ℕ → Name → Type 0) → Raw → Type 0
InsnHasName N (raw.I21c op a index) = SomeName N op index
InsnHasName N (raw.I22c op a b index) = SomeName N op index
InsnHasName N (raw.I31c op a index) = SomeName N op index
InsnHasName N (raw.I35c op n regs index) = SomeName N op index
InsnHasName N (raw.I3rc op n first index) = SomeName N op index
InsnHasName N _ = ⊤

-- the name in an instruction: the empty text where it has none
abbrev pub name_in : Insn → Name
name_in (made.I21c op a which) = which
name_in (made.I22c op a b which) = which
name_in (made.I31c op a which) = which
name_in (made.I35c op n regs which) = which
name_in (made.I3rc op n first which) = which
name_in _ = OfText []

-- ---- numbers of instructions

-- the first n 32-bit numbers of the bytes, from number i on
abbrev pub ints_from : List ℕ → ℕ → ℕ → List ℤ
ints_from bytes i zero = []
ints_from bytes i (suc n) = int_at bytes i ∷ ints_from bytes (i + 1) n

-- the 32-bit numbers of the bytes
unfoldable pub ints : List ℕ → List ℤ
ints bytes = ints_from bytes 0 (length bytes / 4)

-- ---- both

-- the symbolic instruction with this name for its index; T gives the target instruction of an offset
unfoldable pub linked : (ℤ → ℕ) → Name → Raw → Insn
linked T which (raw.I10x op) = made.I10x op
linked T which (raw.I12x op a b) = made.I12x op a b
linked T which (raw.I11n op a b) = made.I11n op a b
linked T which (raw.I11x op a) = made.I11x op a
linked T which (raw.I10t op offset) = made.I10t op (T offset)
linked T which (raw.I20t op offset) = made.I20t op (T offset)
linked T which (raw.I22x op a b) = made.I22x op a b
linked T which (raw.I21t op a offset) = made.I21t op a (T offset)
linked T which (raw.I21s op a b) = made.I21s op a b
linked T which (raw.I21h op a b) = made.I21h op a b
linked T which (raw.I21c op a index) = made.I21c op a which
linked T which (raw.I23x op a b c) = made.I23x op a b c
linked T which (raw.I22b op a b c) = made.I22b op a b c
linked T which (raw.I22t op a b offset) = made.I22t op a b (T offset)
linked T which (raw.I22s op a b c) = made.I22s op a b c
linked T which (raw.I22c op a b index) = made.I22c op a b which
linked T which (raw.I30t op offset) = made.I30t op (T offset)
linked T which (raw.I32x op a b) = made.I32x op a b
linked T which (raw.I31i op a b) = made.I31i op a b
linked T which (raw.I31t op a offset) = made.I31t op a (T offset)
linked T which (raw.I31c op a index) = made.I31c op a which
linked T which (raw.I35c op n regs index) = made.I35c op n regs which
linked T which (raw.I3rc op n first index) = made.I3rc op n first which
linked T which (raw.I51l op a b) = made.I51l op a b
linked T which (raw.Packed first offsets) = made.Packed first (map T (ints offsets))
linked T which (raw.Sparse keys offsets) = made.Sparse (ints keys) (map T (ints offsets))
linked T which (raw.Data width bytes) = made.Data width bytes

-- The raw instruction means the symbolic one; T gives the target instruction of an offset.
pub record Resolves (N : ℕ → Name → Type 0) (T : ℤ → ℕ) (r : Raw) (i : Insn) : Type 0 where
  pub symbol : linked T (name_in i) r ≡ i
  pub named : InsnNames N r (name_in i)
