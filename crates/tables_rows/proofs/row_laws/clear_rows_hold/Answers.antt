use Rattle.tables_rows.proofs.NoFault as law
use Rattle.tables_rows.proofs.row_laws.clear_rows_hold.Goals as goal

pub returns-clause-string : goal.returns-clause-string
returns-clause-string c = law.string_unbroken

pub returns-clause-ty : goal.returns-clause-ty
returns-clause-ty c = law.type_unbroken

pub returns-clause-proto : goal.returns-clause-proto
returns-clause-proto c = law.proto_unbroken

pub returns-clause-field : goal.returns-clause-field
returns-clause-field c = law.field_unbroken

pub returns-clause-method : goal.returns-clause-method
returns-clause-method c = law.method_unbroken
