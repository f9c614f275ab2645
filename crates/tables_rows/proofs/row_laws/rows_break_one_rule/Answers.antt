use Rattle.tables_rows.proofs.OneFault.{string_number, type_number, proto_number, field_number, method_number}
use Rattle.tables_rows.proofs.row_laws.rows_break_one_rule.Goals as goal

pub returns-clause-string : goal.returns-clause-string
returns-clause-string c = string_number

pub returns-clause-ty : goal.returns-clause-ty
returns-clause-ty c = type_number

pub returns-clause-proto : goal.returns-clause-proto
returns-clause-proto c = proto_number

pub returns-clause-field : goal.returns-clause-field
returns-clause-field c = field_number

pub returns-clause-method : goal.returns-clause-method
returns-clause-method c = method_number
