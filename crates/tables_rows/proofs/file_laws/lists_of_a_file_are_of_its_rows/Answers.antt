use Rattle.tables_rows.proofs.NameLaws.{list_stands, stands_list}
use Rattle.tables_rows.proofs.file_laws.lists_of_a_file_are_of_its_rows.Goals as goal

pub returns-clause-there : goal.returns-clause-there
returns-clause-there c = λ b names off ts are at. list_stands b names.types off ts are.types at

pub returns-clause-only : goal.returns-clause-only
returns-clause-only c = λ b names off ts framed are at. stands_list b names.types off ts framed are.types at
