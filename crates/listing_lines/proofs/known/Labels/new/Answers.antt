use Rattle.listing_lines.proofs.OrderLaws.{rising_none}
use Rattle.listing_lines.proofs.known.Labels.new.Goals as goal

pub invariant_of-result : goal.invariant_of-result
invariant_of-result c = rw c.new.ensures.items rising_none
