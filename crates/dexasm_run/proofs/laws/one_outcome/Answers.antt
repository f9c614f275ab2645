use Rattle.dexasm_run.proofs.OutcomeOnce.{outcome_once}
use Rattle.dexasm_run.proofs.laws.one_outcome.Goals as goal

pub returns : goal.returns
returns c = outcome_once
