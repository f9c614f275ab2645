use Rattle.file_limits.proofs.OneLimit.{limit_one}
use Rattle.file_limits.proofs.laws.one_limit.Goals as goal

pub returns : goal.returns
returns c = limit_one
