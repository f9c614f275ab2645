use Rattle.listing_words.proofs.BitLaws.{bits_none}
use Rattle.listing_words.proofs.bits.read_bits.Goals as goal

pub returns-clause-none : goal.returns-clause-none
returns-clause-none c = bits_none c.args.count c.args.word.now c.read_digits.result c.requires.some c.requires.few c.read_digits.ensures
