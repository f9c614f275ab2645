use Rattle.dexasm_run.proofs.AnswerOnce.{answer_once}
use Rattle.dexasm_run.proofs.laws.one_answer.Goals as goal

pub returns : goal.returns
returns c = answer_once
