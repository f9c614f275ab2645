use Rattle.file_read.proofs.FirstLaws.{refused_first}
use Rattle.file_read.proofs.laws.refusals_are_first.Goals as goal

pub returns : goal.returns
returns c = refused_first
