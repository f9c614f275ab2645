use Rattle.code_write.proofs.FitLaws.{caught}
use Rattle.code_write.proofs.tries.count_of.Goals as goal

pub returns : goal.returns
returns c = caught c.args.tries.now c.args.i _ c.requires
