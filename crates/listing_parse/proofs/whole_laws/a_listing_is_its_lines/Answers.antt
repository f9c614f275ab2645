use Rattle.listing_parse.proofs.ListingLaws.{listing_read, listing_goes}
use Rattle.listing_parse.proofs.whole_laws.a_listing_is_its_lines.Goals as goal

pub returns : goal.returns
returns c = λ text p. (listing_read text p, listing_goes text p)
