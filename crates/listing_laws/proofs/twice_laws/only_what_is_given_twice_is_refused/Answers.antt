use Rattle.listing_laws.proofs.TwiceLaws.{refused_if_twice}
use Rattle.listing_laws.proofs.twice_laws.only_what_is_given_twice_is_refused.Goals as goal

pub returns : goal.returns
returns c = refused_if_twice
