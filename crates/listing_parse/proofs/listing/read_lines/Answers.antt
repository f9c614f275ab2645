use Rattle.std.proofs.Common.{◌≡◌, ◌∙◌, ◌+◌, refl, sym, ap, subst, arith, List, ℕ, length, ◌++◌, ◌∷◌, []}
use Rattle.std.proofs.lemmas.List.{length_push}
use Rattle.listing_lines.specs.Splitting.{lines}
use Rattle.listing_parse.specs.inner.Named.{StateIsNamed}
use Rattle.listing_parse.specs.Text.{Reading, begin, Reads}
use Rattle.listing_parse.specs.inner.ReadingView.{reading}
use Rattle.listing_parse.proofs.NamedLaws.{first_named}
use Rattle.listing_parse.proofs.ReadingLaws.{Reads-push, lines_push, bad_line, lines_in, base_of, all_read, read_whole}
use Rattle.listing_parse.proofs.listing.read_lines.Goals as goal
use Rattle.dex_base.proofs.ListFacts.{passed}

pub loop-line-preserved : goal.loop-line-preserved
loop-line-preserved c = let i = c.loop-line.invariant in let n = length_push i.0 c.in-Some.line.now in (
  i.0 ++ c.in-Some.line.now ∷ [],
  lines_push _ i.0 _ _ c.in-Some.line.now i.1 c.in-Some.ensures.found,
  omega (arith, i.2, c.in_ok-read_line.ensures.lines),
  Reads-push begin (reading c.loop-line.listing) (reading c.read_line.new.listing) i.0 c.in-Some.line.now (lines c.in-Some.after.now) (subst (λ (ls : List (List ℕ)). Reads begin i.0 ls (reading c.loop-line.listing)) c.in-Some.ensures.found i.3) c.in_ok-read_line.ensures.taken,
  omega (arith, i.4, c.in-Some.ensures.shorter, c.in_ok-read_line.ensures.lines),
  c.in_ok-read_line.ensures.named i.5,
)

pub loop-line-init : goal.loop-line-init
loop-line-init c =
    let e : c.begin-listing.result.draft.lines ≡ 0 = sym (lines_in c.begin-listing.result) ∙ ap (λ (r : Reading). r.base.lines) c.begin-listing.ensures in
    ([], refl, e, sym c.begin-listing.ensures, omega arith, λ valid. first_named (reading c.begin-listing.result) c.begin-listing.ensures)

pub returns-in_err-read_line-clause-err : goal.returns-in_err-read_line-clause-err
returns-in_err-read_line-clause-err c =
    let i = c.loop-line.invariant in
    passed _ _ _ c.from_residual-in_err-read_line.ensures.1 (λ ne.
    bad_line c.args.text.now i.0 (lines c.in-Some.after.now) _ c.in-Some.line.now (reading c.loop-line.listing) _ _ i.1 c.in-Some.ensures.found (c.in_err-read_line.ensures.place ne ∙ ap (λ (n : ℕ). n + 1) i.2) i.3 (c.in_err-read_line.ensures.refused ne))

pub returns-clause-ok : goal.returns-clause-ok
returns-clause-ok c = let i = c.loop-line.invariant in (reading c.loop-line.listing, read_whole _ i.0 _ (reading c.loop-line.listing) i.1 c.in_default.ensures.none i.3, base_of c.loop-line.listing)

pub returns-clause-number : goal.returns-clause-number
returns-clause-number c = let i = c.loop-line.invariant in i.2 ∙ ap length (sym (all_read _ i.0 _ i.1 c.in_default.ensures.none))

pub returns-clause-named : goal.returns-clause-named
returns-clause-named c = λ named. subst StateIsNamed (base_of c.loop-line.listing) (c.loop-line.invariant.5 (sym c.is_valid.ensures ∙ named))
