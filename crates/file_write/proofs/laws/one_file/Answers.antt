use Rattle.file_write.proofs.OneFile.{file_one}
use Rattle.file_write.proofs.laws.one_file.Goals as goal

pub returns : goal.returns
returns c = file_one
