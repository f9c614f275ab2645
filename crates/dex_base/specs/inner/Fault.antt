-- Beside Fault.antt: what no promise reaches.
use Rattle.std.specs.Prelude.{ℕ, List}
use Rattle.dex_base.specs.declared.fault_names.Row.{Row}
use Rattle.std.specs.Borrow.{Bor}

-- the number in a row
abbrev pub row_number : Row (Bor (List ℕ)) → ℕ
row_number row = row.number

-- the name in a row
abbrev pub row_name : Row (Bor (List ℕ)) → List ℕ
row_name row = row.name.now

-- the sentence in a row
abbrev pub row_sentence : Row (Bor (List ℕ)) → List ℕ
row_sentence row = row.says.now
