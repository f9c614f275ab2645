-- Beside Words.antt: what no promise reaches.
use Rattle.std.specs.Prelude.{◌≢◌, ℕ, ◌<◌, List, [], ◌∷◌, ◌++◌, length, slice_index}
use Rattle.std.specs.List.{AllByRecursion}
use Rattle.listing_words.specs.Words.{IsGraphic, Word, plain_word, text_in_quotes, word_bytes}

-- What can be written.
abbrev pub IsWritable : Word → Type 0
IsWritable (plain_word w) = (0 < length w) × (slice_index w 0 ≢ 34) × AllByRecursion IsGraphic w
IsWritable (text_in_quotes us) = AllByRecursion (λ u. u < 65536) us

-- Words with one space between them.
abbrev pub line_bytes : List Word → List ℕ
line_bytes [] = []
line_bytes (w ∷ []) = word_bytes w
line_bytes (w ∷ v ∷ ws) = word_bytes w ++ (32 ∷ line_bytes (v ∷ ws))
