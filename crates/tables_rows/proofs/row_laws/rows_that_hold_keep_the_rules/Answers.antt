use Rattle.tables_rows.proofs.KeptRules.{string_keeps, type_keeps, proto_keeps, field_keeps, method_keeps}
use Rattle.tables_rows.proofs.row_laws.rows_that_hold_keep_the_rules.Goals as goal

pub returns-clause-string : goal.returns-clause-string
returns-clause-string c = string_keeps

pub returns-clause-ty : goal.returns-clause-ty
returns-clause-ty c = type_keeps

pub returns-clause-proto : goal.returns-clause-proto
returns-clause-proto c = proto_keeps

pub returns-clause-field : goal.returns-clause-field
returns-clause-field c = field_keeps

pub returns-clause-method : goal.returns-clause-method
returns-clause-method c = method_keeps
