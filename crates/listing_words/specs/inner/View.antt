-- A word in memory.
use Rattle.listing_words.specs.Words as said
use Rattle.listing_words.specs.declared.words.Word.{Word}
use Rattle.listing_words.specs.declared.words.Word.TheVariants as made

-- The content of the word, wherever its bytes are.
abbrev pub word : Word → said.Word
word (made.Plain w) = said.plain_word w.now
word (made.Text us) = said.text_in_quotes us.now
