use Rattle.tables_laws.proofs.FileLemmas as law
use Rattle.tables_laws.proofs.laws.names_compare_as_rows.Goals as goal

pub returns-clause-string : goal.returns-clause-string
returns-clause-string c = law.strings_compare

pub returns-clause-ty : goal.returns-clause-ty
returns-clause-ty c = law.types_compare

pub returns-clause-proto : goal.returns-clause-proto
returns-clause-proto c = law.protos_compare

pub returns-clause-field : goal.returns-clause-field
returns-clause-field c = law.fields_compare

pub returns-clause-method : goal.returns-clause-method
returns-clause-method c = law.methods_compare
