-- Beside TableFaults.antt: what no promise reaches.
use Rattle.std.specs.Prelude.{ℕ, List}
use Rattle.dex_base.specs.declared.fault.Fault.{Fault}
use Rattle.dex_base.specs.FirstFault.{First}
use Rattle.dex_container.specs.Layout.{size_of}
use Rattle.tables_rows.specs.TableFaults.{BreaksAt}

-- The fault is that of a row of table k, and all rows before it hold.
abbrev pub IsFirstRow : (List ℕ → ℕ → ℕ → Type 0) → (List ℕ → ℕ → Type 0) → List ℕ → ℕ → Fault → Type 0
IsFirstRow Breaks Holds b k = First (size_of b k) (Holds b) (BreaksAt Breaks b k)
