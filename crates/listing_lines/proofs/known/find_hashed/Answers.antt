use Rattle.std.proofs.Common.{◌∙◌}
use Rattle.listing_slots.proofs.KeyLaws.{same_is}
use Rattle.listing_lines.proofs.LookLaws.{found_place}
use Rattle.listing_lines.proofs.known.find_hashed.Goals as goal

pub returns : goal.returns
returns c = c.copied.ensures ∙ c.get.ensures.value ∙ found_place c.args.name.now _ (λ k. same_is c.args.name.now k.now) c.args.rest.now.entries
