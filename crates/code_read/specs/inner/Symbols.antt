-- Beside Symbols.antt: what no promise reaches.
use Rattle.std.specs.Prelude.{ℕ, Bool, true, false, ◌≡◌}
use Rattle.dex_insn.specs.Raw as raw
use Rattle.dex_insn.specs.Raw.{Raw}
use Rattle.dex_insn.specs.declared.opcode.IndexKind.{IndexKind}
use Rattle.program_types.specs.Kinds.{IsOfKind}
use Rattle.program_types.specs.Content.{Name}

-- In each table an index stands for one name.
abbrev pub IsFunctional : (ℕ → Name → Type 0) → Type 0
IsFunctional N = (kind : IndexKind) (i : ℕ) (m n : Name) → IsOfKind kind m → IsOfKind kind n → N i m → N i n → m ≡ n

-- it has an offset: the letter t of its format
unfoldable pub has_offset : Raw → Bool
has_offset (raw.I10t op offset) = true
has_offset (raw.I20t op offset) = true
has_offset (raw.I21t op a offset) = true
has_offset (raw.I22t op a b offset) = true
has_offset (raw.I30t op offset) = true
has_offset (raw.I31t op a offset) = true
has_offset _ = false

-- it has an index: the letter c of its format
unfoldable pub has_index : Raw → Bool
has_index (raw.I21c op a index) = true
has_index (raw.I22c op a b index) = true
has_index (raw.I31c op a index) = true
has_index (raw.I35c op n regs index) = true
has_index (raw.I3rc op n first index) = true
has_index _ = false
