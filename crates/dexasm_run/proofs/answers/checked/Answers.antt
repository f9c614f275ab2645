use Rattle.dex_base.proofs.ListFacts.{passed}
use Rattle.dexasm_run.proofs.answers.checked.Goals as goal

pub returns-in_err-check-clause-refused : goal.returns-in_err-check-clause-refused
returns-in_err-check-clause-refused c = passed _ _ _ c.from_residual.ensures.1 (λ ne. c.in_err-check.ensures.refused ne)
