use Rattle.listing_words.proofs.WordLaws.{words_one}
use Rattle.listing_words.proofs.NameLaws.{units_one}
use Rattle.listing_words.proofs.BitLaws.{elements_one}
use Rattle.listing_words.proofs.NaturalLaws.{natural_one}
use Rattle.listing_words.proofs.laws.words_are_read_one_way.Goals as goal

pub returns : goal.returns
returns c = record { line = words_one; units = units_one; natural = natural_one; elements = elements_one }
