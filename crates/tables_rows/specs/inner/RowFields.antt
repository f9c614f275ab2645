-- Beside RowFields.antt: what no promise reaches.
use Rattle.std.specs.Prelude.{ℕ}
use Rattle.tables_rows.specs.declared.row_fields.MemberTable.{MemberTable}
use Rattle.tables_rows.specs.declared.row_fields.MemberTable.TheVariants.{Fields, Methods}

-- the number of a table of members
abbrev pub number_of : MemberTable → ℕ
number_of Fields = 3
number_of Methods = 4
