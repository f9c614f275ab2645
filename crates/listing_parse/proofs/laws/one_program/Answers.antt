use Rattle.listing_parse.proofs.ExactLaws.{listing_one, listing_none}
use Rattle.listing_parse.proofs.laws.one_program.Goals as goal

pub returns : goal.returns
returns c = record { one = listing_one; none = listing_none }
