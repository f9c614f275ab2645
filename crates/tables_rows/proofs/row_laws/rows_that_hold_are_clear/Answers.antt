use Rattle.tables_rows.proofs.ClearRows.{string_clear, type_clear, proto_clear, field_clear, method_clear}
use Rattle.tables_rows.proofs.row_laws.rows_that_hold_are_clear.Goals as goal

pub returns-clause-string : goal.returns-clause-string
returns-clause-string c = string_clear

pub returns-clause-ty : goal.returns-clause-ty
returns-clause-ty c = type_clear

pub returns-clause-proto : goal.returns-clause-proto
returns-clause-proto c = proto_clear

pub returns-clause-field : goal.returns-clause-field
returns-clause-field c = field_clear

pub returns-clause-method : goal.returns-clause-method
returns-clause-method c = method_clear
