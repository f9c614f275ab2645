use Rattle.std.proofs.Common.{inl, inr}
use Rattle.std.proofs.lemmas.Result.{IfErr-weaker}
use Rattle.dexasm_run.proofs.MadeLaws.{made_and}
use Rattle.dexasm_run.proofs.answers.file_of.Goals as goal
use Rattle.dex_base.proofs.ListFacts.{passed}

pub returns-in_err-aligned-clause-refused : goal.returns-in_err-aligned-clause-refused
returns-in_err-aligned-clause-refused c = rw c.if-align.true (passed _ _ _ c.from_residual.ensures.1 (λ ne. inl (c.in_err-aligned.ensures.err ne)))

pub returns-then-align-clause-written : goal.returns-then-align-clause-written
returns-then-align-clause-written c =
    rw c.if-align.true (made_and c.write_seeded.result _ _ _ (λ made file fits. (_, record { aligned = c.in_ok-aligned.ensures.ok; formed = c.in_ok-aligned.ensures.formed }, fits, file)) c.write_seeded.ensures.file c.write_seeded.ensures.fits)

pub returns-then-align-clause-refused : goal.returns-then-align-clause-refused
returns-then-align-clause-refused c =
    rw c.if-align.true (IfErr-weaker c.write_seeded.result _ _ (λ e h ne. inr (_, record { aligned = c.in_ok-aligned.ensures.ok; formed = c.in_ok-aligned.ensures.formed }, h ne)) c.write_seeded.ensures.refused)

pub returns-clause-written : goal.returns-clause-written
returns-clause-written c = rw c.if-align.false (made_and c.write_seeded-2.result _ _ _ (λ made file fits. (fits, file)) c.write_seeded-2.ensures.file c.write_seeded-2.ensures.fits)

pub returns-clause-refused : goal.returns-clause-refused
returns-clause-refused c = rw c.if-align.false c.write_seeded-2.ensures.refused
