use Rattle.listing_lines.proofs.OrderLaws.{rising_none}
use Rattle.listing_lines.proofs.known.Labels.clear.Goals as goal

pub invariant_of-self : goal.invariant_of-self
invariant_of-self c = rw c.clear.ensures.items rising_none
