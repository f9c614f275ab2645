use Rattle.code_read.proofs.NamesHaveRows.{names-have-rows}
use Rattle.code_read.proofs.file_laws.names_of_codes_have_rows.Goals as goal

pub returns : goal.returns
returns c = names-have-rows
