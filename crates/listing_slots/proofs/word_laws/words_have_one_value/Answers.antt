use Rattle.listing_slots.proofs.SpellsOneLaws.{spells_one}
use Rattle.listing_slots.proofs.word_laws.words_have_one_value.Goals as goal

pub returns : goal.returns
returns c = spells_one
