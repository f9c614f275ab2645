use Rattle.listing_words.proofs.PrintLaws.{line_again}
use Rattle.listing_words.proofs.WrittenLaws.{name_again, bits_again, flags_again, elements_again}
use Rattle.listing_words.proofs.laws.written_words_are_read_again.Goals as goal

pub returns : goal.returns
returns c = record { line = line_again; name = name_again; bits = bits_again; flags = flags_again; elements = elements_again }
