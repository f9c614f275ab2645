use Rattle.dexasm_run.proofs.AnswerOnce.{listed_once}
use Rattle.dexasm_run.proofs.laws.listed_and_assembled_is_stripped.Goals as goal

pub returns : goal.returns
returns c = listed_once
