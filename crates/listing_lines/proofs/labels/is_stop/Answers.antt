use Rattle.listing_lines.proofs.AheadLaws.{nothing_stops, goes_on}
use Rattle.listing_lines.proofs.labels.is_stop.Goals as goal

pub returns-in_default : goal.returns-in_default
returns-in_default c = nothing_stops c.args.words.now c.in_default.ensures.cases

pub returns-then-first-ne101 : goal.returns-then-first-ne101
returns-then-first-ne101 c = goes_on _ _ c.args.words.now c.in-Some.ensures.cases.0 c.if-first-ne116.true c.if-first-ne101.true
