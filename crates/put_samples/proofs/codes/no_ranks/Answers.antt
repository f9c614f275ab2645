use Rattle.std.proofs.Common.{◌∙◌}
use Rattle.std.proofs.lemmas.Result.{IfOk-weaker}
use Rattle.put_samples.proofs.codes.no_ranks.Goals as goal

pub returns : goal.returns
returns c = IfOk-weaker c.freeze.result _ _ (λ r h. h ∙ c.new.ensures) c.freeze.ensures.same
