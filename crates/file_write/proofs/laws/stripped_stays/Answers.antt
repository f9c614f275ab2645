use Rattle.file_write.proofs.OneFile.{stripped_stays}
use Rattle.file_write.proofs.laws.stripped_stays.Goals as goal

pub returns : goal.returns
returns c = stripped_stays
