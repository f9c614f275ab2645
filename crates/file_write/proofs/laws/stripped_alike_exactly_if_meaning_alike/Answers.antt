use Rattle.file_write.proofs.OneFile.{stripped_alike}
use Rattle.file_write.proofs.laws.stripped_alike_exactly_if_meaning_alike.Goals as goal

pub returns : goal.returns
returns c = stripped_alike
