use Rattle.listing_words.proofs.NaturalLaws.{number_none, number_found}
use Rattle.listing_words.proofs.labels.is_number.Goals as goal

pub returns-in-None : goal.returns-in-None
returns-in-None c = number_none _ _ c.in-None.ensures.none

pub returns-in-Some : goal.returns-in-Some
returns-in-Some c = number_found _ _ _ c.in-Some.ensures.found.0
