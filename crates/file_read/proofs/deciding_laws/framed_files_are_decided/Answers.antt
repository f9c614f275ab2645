use Rattle.file_read.proofs.FileDecided as law
use Rattle.file_read.proofs.deciding_laws.framed_files_are_decided.Goals as goal

pub returns : goal.returns
returns c = law.framed_is_decided
