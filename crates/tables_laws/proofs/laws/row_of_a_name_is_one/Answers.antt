use Rattle.tables_laws.proofs.FileLemmas as law
use Rattle.tables_laws.proofs.laws.row_of_a_name_is_one.Goals as goal

pub returns-clause-name : goal.returns-clause-name
returns-clause-name c = law.name_row_one

pub returns-clause-proto : goal.returns-clause-proto
returns-clause-proto c = law.proto_row_one
