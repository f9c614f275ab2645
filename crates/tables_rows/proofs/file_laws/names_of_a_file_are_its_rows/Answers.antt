use Rattle.tables_rows.proofs.NameLaws.{stands_names, names_one}
use Rattle.tables_rows.proofs.file_laws.names_of_a_file_are_its_rows.Goals as goal

pub returns-clause-only : goal.returns-clause-only
returns-clause-only c = stands_names

pub returns-clause-one : goal.returns-clause-one
returns-clause-one c = names_one
