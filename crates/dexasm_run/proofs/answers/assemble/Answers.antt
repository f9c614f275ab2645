use Rattle.std.proofs.Common.{inl, inr}
use Rattle.std.proofs.lemmas.Result.{IfErr-weaker, IfOk-weaker}
use Rattle.dexasm_run.proofs.ListedLaws.{lists}
use Rattle.dexasm_run.proofs.answers.assemble.Goals as goal
use Rattle.dex_base.proofs.ListFacts.{passed}

pub returns-in_err-listed-clause-refused : goal.returns-in_err-listed-clause-refused
returns-in_err-listed-clause-refused c = passed _ _ _ c.from_residual.ensures.1 (λ ne. inl (c.in_err-listed.ensures.err ne))

pub file_of-requires : goal.file_of-requires
file_of-requires c = record { formed = c.in_ok-listed.ensures.ok.formed }

pub returns-clause-answered : goal.returns-clause-answered
returns-clause-answered c = IfOk-weaker c.file_of.result _ _ (λ made h. (_, lists _ _ c.in_ok-listed.ensures.ok, h)) c.file_of.ensures.written

pub returns-clause-refused : goal.returns-clause-refused
returns-clause-refused c = IfErr-weaker c.file_of.result _ _ (λ e h ne. inr (_, lists _ _ c.in_ok-listed.ensures.ok, h ne)) c.file_of.ensures.refused
