use Rattle.std.proofs.Common.{◌≢◌, ℕ, IfErr, List, inl, subst}
use Rattle.dex_base.specs.Fault.{memory}
use Rattle.file_read.specs.Refused.{IsRefused}
use Rattle.file_read.proofs.checking.check.Goals as goal
use Rattle.dex_base.proofs.ListFacts.{passed}

pub returns-in_err-sections-clause-refused : goal.returns-in_err-sections-clause-refused
returns-in_err-sections-clause-refused c = passed _ _ _ c.from_residual.ensures.1 (λ ne. inl c.in_err-sections.ensures.fault)

pub returns-clause-refused : goal.returns-clause-refused
returns-clause-refused c =
    subst (λ (b : List ℕ). IfErr c.check_framed.result (λ e. e ≢ memory → IsRefused b e)) c.in_ok-sections.ensures.framed.0 c.check_framed.ensures.refused
