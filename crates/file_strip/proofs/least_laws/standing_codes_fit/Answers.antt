use Rattle.file_strip.proofs.StandingFits.{codes-fit}
use Rattle.file_strip.proofs.least_laws.standing_codes_fit.Goals as goal

pub returns : goal.returns
returns c = codes-fit
