use Rattle.std.proofs.Common.{◌∙◌, sym}
use Rattle.listing_slots.proofs.KeyLaws.{same_is}
use Rattle.listing_lines.proofs.LookLaws.{found_there}
use Rattle.listing_lines.proofs.known.hashed_at.Goals as goal

pub returns-then-is_same : goal.returns-then-is_same
returns-then-is_same c = found_there _ (λ j k. same_is j.now k.now) c.in_ok-there.there.now c.args.name.now c.in_ok-there.place.now c.args.rest.now.entries c.in_ok-there.ensures.value (sym c.is_same.ensures ∙ c.if-is_same.true)
