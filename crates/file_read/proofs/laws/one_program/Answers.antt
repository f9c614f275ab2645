use Rattle.file_read.proofs.PassLaws.{program_one}
use Rattle.file_read.proofs.laws.one_program.Goals as goal

pub returns : goal.returns
returns c = program_one
