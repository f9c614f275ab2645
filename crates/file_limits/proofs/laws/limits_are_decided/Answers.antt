use Rattle.file_limits.proofs.LimitLaws.{fits_breaks_none, none_broken_fits}
use Rattle.file_limits.proofs.laws.limits_are_decided.Goals as goal

pub returns : goal.returns
returns c = λ p. (fits_breaks_none p, none_broken_fits p)
