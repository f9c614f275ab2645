-- The words of a line, and how they are written.
-- Page: docs/LISTING.md, "Lines and words".
use Rattle.std.specs.Prelude.{◌≡◌, ◌≢◌, ℕ, ◌<◌, ◌≤◌, ◌==◌, if◌then◌else◌, List, [], ◌∷◌, length, slice_index}
use Rattle.std.specs.List.{AllByRecursion}
use Rattle.listing_words.specs.Taking.{EachTaken}
use Rattle.listing_words.specs.Texts.{TakesUnits, text_word}

-- A word: the bytes of one without quotes, or the units of a text in quotes.
pub data Word : Type 0 where
  plain_word : List ℕ → Word
  text_in_quotes : List ℕ → Word

-- The text without the spaces at its front.
abbrev pub after_spaces : List ℕ → List ℕ
after_spaces [] = []
after_spaces (c ∷ cs) = if c == 32 then after_spaces cs else c ∷ cs

-- The front before the first space.
abbrev pub up_to_space : List ℕ → List ℕ
up_to_space [] = []
up_to_space (c ∷ cs) = if c == 32 then [] else c ∷ up_to_space cs

-- The first space and what follows it.
abbrev pub from_space : List ℕ → List ℕ
from_space [] = []
from_space (c ∷ cs) = if c == 32 then c ∷ cs else from_space cs

-- A byte of a word.
abbrev pub IsGraphic : ℕ → Type 0
IsGraphic c = (33 ≤ c) × (c < 127)

-- A word that doesn't begin with a quote.
pub record TakesPlain (text : List ℕ) (w : List ℕ) (rest : List ℕ) : Type 0 where
  pub some : 0 < length w
  pub no_quote : slice_index w 0 ≢ 34
  pub bytes : AllByRecursion IsGraphic w
  pub word : w ≡ up_to_space text
  pub after : rest ≡ from_space text

-- A text in quotes, followed by a space or the line's end.
pub record TakesText (text : List ℕ) (us : List ℕ) (rest : List ℕ) : Type 0 where
  pub inner : List ℕ
  pub quote : text ≡ 34 ∷ inner
  pub units : TakesUnits inner us rest
  pub ends : up_to_space rest ≡ []

-- A word, after any number of spaces.
abbrev pub TakesWord : List ℕ → Word → List ℕ → Type 0
TakesWord text (plain_word w) rest = TakesPlain (after_spaces text) w rest
TakesWord text (text_in_quotes us) rest = TakesText (after_spaces text) us rest

-- The words of a line: between them and at both ends are spaces.
pub record HasWords (line : List ℕ) (ws : List Word) : Type 0 where
  pub end : List ℕ
  pub words : EachTaken TakesWord line ws end
  pub spaces : after_spaces end ≡ []

-- ---- how words are written

-- A word as it is written.
abbrev pub word_bytes : Word → List ℕ
word_bytes (plain_word w) = w
word_bytes (text_in_quotes us) = text_word us
