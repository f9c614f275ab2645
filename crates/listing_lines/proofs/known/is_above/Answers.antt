use Rattle.std.proofs.Common.{◌∙◌, ap}
use Rattle.std.specs.Ordering.{is_lt}
use Rattle.listing_lines.proofs.OrderLaws.{above_by_last}
use Rattle.listing_lines.proofs.known.is_above.Goals as goal

pub returns-in-Some : goal.returns-in-Some
returns-in-Some c = c.is_lt.ensures ∙ ap is_lt c.compare.ensures ∙ above_by_last c.args.front.now c.args.name.now c.in-Some.field-0.now c.requires c.in-Some.ensures.value
