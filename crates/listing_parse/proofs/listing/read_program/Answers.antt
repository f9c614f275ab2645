use Rattle.std.proofs.Common.{◌∙◌, sym, subst}
use Rattle.std.specs.List.{AllByRecursion}
use Rattle.program_rules.specs.Rules.{CodesHold}
use Rattle.program_rules.specs.inner.Valid.{InsnsAreNamed}
use Rattle.listing_parse.specs.inner.View.{state}
use Rattle.listing_parse.proofs.ReadingLaws.{lines_of, whole_text, unfinished_text, unruly_text}
use Rattle.listing_parse.proofs.listing.read_program.Goals as goal
use Rattle.dex_base.proofs.ListFacts.{passed}

pub returns-in_err-check_end-clause-err : goal.returns-in_err-check_end-clause-err
returns-in_err-check_end-clause-err c =
    passed _ _ _ c.from_residual-in_err-check_end.ensures.1 (λ ne. unfinished_text _ (state c.in_ok-listed.listed.draft) c.in_ok-listed.ensures.ok.0 _ _ c.in_ok-listed.ensures.ok.1 c.in_ok-listed.ensures.ok.2 (lines_of c.in_ok-listed.listed.draft ∙ c.in_ok-listed.ensures.number) c.in_err-check_end.ensures.err)

pub returns-in_err-well_formed_named_seeded-clause-err : goal.returns-in_err-well_formed_named_seeded-clause-err
returns-in_err-well_formed_named_seeded-clause-err c =
    passed _ _ _ c.from_residual-in_err-well_formed_named_seeded.ensures.1 (λ ne. unruly_text _ (state c.in_ok-listed.listed.draft) c.in_ok-listed.ensures.ok.0 _ _ c.in_ok-listed.ensures.ok.1 c.in_ok-listed.ensures.ok.2 c.in_ok-check_end.ensures.ok c.into_classes.ensures (c.in_err-well_formed_named_seeded.ensures.err ne))

pub returns-clause-ok : goal.returns-clause-ok
returns-clause-ok c = whole_text _ (state c.in_ok-listed.listed.draft) c.in_ok-listed.ensures.ok.0 _ c.in_ok-listed.ensures.ok.1 c.in_ok-listed.ensures.ok.2 c.in_ok-check_end.ensures.ok c.into_classes.ensures c.in_ok-well_formed_named_seeded.ensures.formed

pub well_formed_named_seeded-requires : goal.well_formed_named_seeded-requires
well_formed_named_seeded-requires c = λ named. subst (AllByRecursion (CodesHold InsnsAreNamed)) (sym c.into_classes.ensures) (c.in_ok-listed.ensures.named named).done
