use Rattle.dex_base.proofs.Deciding.{decide_uleb}
use Rattle.dex_base.proofs.spelling_laws.numbers_are_decided.Goals as goal

pub returns : goal.returns
returns c = decide_uleb
