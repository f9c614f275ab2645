use Rattle.std.proofs.Common.{inl, subst, sym}
use Rattle.file_read.proofs.RangeLaws as law
use Rattle.file_read.specs.Means.{Means}
use Rattle.file_read.specs.Refused.{IsRefused}
use Rattle.tables_rows.proofs.ClearRows.{only_memory}
use Rattle.file_write.proofs.FileLaws.{file_of, late_limit, none_broken, stripped}
use Rattle.file_write.proofs.writing.strip_seeded.Goals as goal
use Rattle.dex_base.proofs.ListFacts.{passed}

pub returns-clause-ok : goal.returns-clause-ok
returns-clause-ok c =
    let b = c.args.bytes.now in
    let p = c.in_ok-check_framed.ensures.means.0 in
    let m = c.in_ok-check_framed.ensures.means.1 in
    let meant = subst (λ x. Means x p) c.in_ok-sections.ensures.framed.0 m in
    let fits = c.in_ok-strip_framed.ensures.fits p m in
    stripped b c.in_ok-strip_framed.field-0.items p meant fits (file_of c.in_ok-strip_framed.field-0.items p (law.well_formed b c.are_bytes.ensures.each p meant) fits (c.in_ok-strip_framed.ensures.assembled p m))

pub returns-in_err-sections-clause-refused : goal.returns-in_err-sections-clause-refused
returns-in_err-sections-clause-refused c = passed _ _ _ c.from_residual.ensures.1 (λ ne. inl (inl c.in_err-sections.ensures.fault))

pub returns-in_err-check_framed-clause-only : goal.returns-in_err-check_framed-clause-only
returns-in_err-check_framed-clause-only c = λ p m fits.
    passed _ _ _ c.from_residual-in_err-check_framed.ensures.1 (c.in_err-check_framed.ensures.only p (subst (λ x. Means x p) (sym c.in_ok-sections.ensures.framed.0) m))

pub returns-in_err-check_framed-clause-refused : goal.returns-in_err-check_framed-clause-refused
returns-in_err-check_framed-clause-refused c =
    passed _ _ _ c.from_residual-in_err-check_framed.ensures.1 (λ ne. inl (subst (λ x. IsRefused x c.in_err-check_framed.field-0.0) c.in_ok-sections.ensures.framed.0 (c.in_err-check_framed.ensures.refused ne)))

pub returns-in_err-strip_framed-clause-only : goal.returns-in_err-strip_framed-clause-only
returns-in_err-strip_framed-clause-only c = λ p m fits.
    passed _ _ _ c.from_residual-in_err-strip_framed.ensures.1 (only_memory _ (λ ne. none_broken p _ fits (c.in_err-strip_framed.ensures.refused ne p (subst (λ x. Means x p) (sym c.in_ok-sections.ensures.framed.0) m))))

pub returns-in_err-strip_framed-clause-refused : goal.returns-in_err-strip_framed-clause-refused
returns-in_err-strip_framed-clause-refused c =
    let b = c.args.bytes.now in
    let p = c.in_ok-check_framed.ensures.means.0 in
    let m = c.in_ok-check_framed.ensures.means.1 in
    passed _ _ _ c.from_residual-in_err-strip_framed.ensures.1 (late_limit b p c.are_bytes.ensures.each (subst (λ x. Means x p) c.in_ok-sections.ensures.framed.0 m) _ (λ ne. c.in_err-strip_framed.ensures.refused ne p m))
