use Rattle.std.proofs.Common.{List, ℕ, ◌∙◌, subst}
use Rattle.dex_base.proofs.ListFacts.{passed}
use Rattle.file_read.specs.Refused.{IsRefused}
use Rattle.dexasm_run.proofs.answers.list.Goals as goal

pub loop-text-preserved : goal.loop-text-preserved
loop-text-preserved c = record { listed = c.in_ok-put_some.ensures.listed; bytes = c.in_ok-put_some.ensures.bytes ∙ c.loop-text.invariant.bytes }

pub returns-in_err-reader-clause-refused : goal.returns-in_err-reader-clause-refused
returns-in_err-reader-clause-refused c = passed _ _ _ c.from_residual.ensures.1 (λ ne. c.in_err-reader.ensures.refused ne)

pub returns-in_err-put_some-clause-refused : goal.returns-in_err-put_some-clause-refused
returns-in_err-put_some-clause-refused c =
    passed _ _ _ c.from_residual-in_err-put_some.ensures.1
    (λ ne. subst (λ (b : List ℕ). IsRefused b c.in_err-put_some.field-0.0) c.loop-text.invariant.bytes (c.in_err-put_some.ensures.refused ne))
