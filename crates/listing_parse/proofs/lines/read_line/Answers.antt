use Rattle.std.proofs.Common.{◌≡◌, ◌∙◌}
use Rattle.std.proofs.lemmas.Result.{on_ok_weaker}
use Rattle.listing_parse.specs.Text.{line_counted}
use Rattle.listing_parse.specs.inner.ReadingView.{reading}
use Rattle.listing_parse.proofs.NamedLaws.{counted_named}
use Rattle.listing_parse.proofs.lines.read_line.Goals as goal

pub returns-clause-refused : goal.returns-clause-refused
returns-clause-refused c =
    let same : reading c.add_short.new.listing ≡ line_counted (reading c.args.listing.now) = (rw c.if-branch.false at c.in_ok-add_short.ensures.added) ∙ c.count_line.ensures.state in
    rw same at c.add_line.ensures.refused

pub returns-then-is_skipped-clause-named : goal.returns-then-is_skipped-clause-named
returns-then-is_skipped-clause-named c = λ named. c.in_ok-add_short.ensures.named (counted_named c.args.scratch.now.spelled (reading c.args.listing.now) (reading c.count_line.new.listing) c.count_line.ensures.state named)

pub returns-clause-named : goal.returns-clause-named
returns-clause-named c =
    on_ok_weaker c.add_line.result
    (λ after named. after (c.in_ok-add_short.ensures.named (counted_named c.args.scratch.now.spelled (reading c.args.listing.now) (reading c.count_line.new.listing) c.count_line.ensures.state named)))
    c.add_line.ensures.named
