use Rattle.file_write.proofs.Classes.{means}
use Rattle.file_write.proofs.laws.assembled_means.Goals as goal

pub returns : goal.returns
returns c = means
