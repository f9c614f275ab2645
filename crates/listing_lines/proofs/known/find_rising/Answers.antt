use Rattle.std.proofs.Common.{◌∙◌, sym, ap, Some}
use Rattle.std.proofs.lemmas.Option.{slice_get-get_or}
use Rattle.listing_slots.proofs.KeyLaws.{same_true}
use Rattle.listing_lines.proofs.OrderLaws.{there}
use Rattle.listing_lines.proofs.known.find_rising.Goals as goal

pub returns-then-is_same : goal.returns-then-is_same
returns-then-is_same c =
    let e = c.in-Some.field-0.now in
    let item = c.in-Some.ensures.lookup in
    there c.args.front.now c.args.name.now c.args.near e c.requires (ap Some item.1 ∙ sym (slice_get-get_or c.args.front.now c.args.near e item.3.0)) item.3.0
    (same_true e.0.now c.args.name.now (sym c.is_same.ensures ∙ c.if-is_same.true))
