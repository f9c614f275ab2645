use Rattle.file_write.proofs.OneFile.{written_read}
use Rattle.file_write.proofs.laws.written_is_read.Goals as goal

pub returns : goal.returns
returns c = written_read
