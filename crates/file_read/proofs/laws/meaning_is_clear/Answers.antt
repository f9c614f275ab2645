use Rattle.file_read.proofs.FirstLaws.{means_clear}
use Rattle.file_read.proofs.laws.meaning_is_clear.Goals as goal

pub returns : goal.returns
returns c = means_clear
