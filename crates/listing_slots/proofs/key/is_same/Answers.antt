use Rattle.std.proofs.Common.{◌∙◌}
use Rattle.listing_slots.proofs.KeyLaws.{same_is}
use Rattle.listing_slots.proofs.key.is_same.Goals as goal

pub returns : goal.returns
returns c = c.eq.ensures ∙ same_is c.args.a.now c.args.b.now
