-- The words of a written line are the words that were written.
use Rattle.std.proofs.Common.{◌≡◌, ◌≢◌, ℕ, ◌<◌, List, [], ◌∷◌, ◌++◌, length, refl, sym, ap, subst, ◌∙◌, append_assoc, arith}
use Rattle.std.proofs.lemmas.Bool.{ne_eqb}
use Rattle.std.proofs.lemmas.List.{append-nil}
use Rattle.std.specs.List.{AllByRecursion, flat_map}
use Rattle.listing_words.specs.Taking.{EachTaken}
use Rattle.listing_words.specs.Texts.{unit_text}
use Rattle.listing_words.specs.Words.{Word, plain_word, text_in_quotes, after_spaces, up_to_space, from_space, IsGraphic, TakesPlain, TakesWord, HasWords, word_bytes}
use Rattle.listing_words.specs.inner.Words.{IsWritable, line_bytes}
use Rattle.listing_words.proofs.TextLaws.{text_takes}
use Rattle.listing_words.proofs.WordLaws.{up_at_other, from_at_other}

pub up_to_end : (w rest : List ℕ) → AllByRecursion IsGraphic w → up_to_space rest ≡ [] → up_to_space (w ++ rest) ≡ w
up_to_end [] rest g e = e
up_to_end (c ∷ w) rest g e = up_at_other c (w ++ rest) (λ i. let h = g.0.0 in omega arith) ∙ ap (λ l. c ∷ l) (up_to_end w rest g.1 e)

from_end : (w rest : List ℕ) → AllByRecursion IsGraphic w → from_space rest ≡ rest → from_space (w ++ rest) ≡ rest
from_end [] rest g e = e
from_end (c ∷ w) rest g e = from_at_other c (w ++ rest) (λ i. let h = g.0.0 in omega arith) ∙ from_end w rest g.1 e

-- a word begins with no space
pub starts : (w rest : List ℕ) → 0 < length w → AllByRecursion IsGraphic w → after_spaces (w ++ rest) ≡ w ++ rest
starts [] rest p g = absurd (omega arith)
starts (c ∷ w) rest p g = let n : c ≢ 32 = λ i. (let h = g.0.0 in omega arith) in rw (ne_eqb c 32 n) refl

-- after a word the line ends or a space stands
pub record Ends (rest : List ℕ) : Type 0 where
  pub none : up_to_space rest ≡ []
  pub all : from_space rest ≡ rest

word_taken : (w : Word) (rest : List ℕ) → IsWritable w → Ends rest → TakesWord (word_bytes w ++ rest) w rest
word_taken (plain_word w) rest h e = subst (λ (t : List ℕ). TakesPlain t w rest) (sym (starts w rest h.0 h.2)) (record {
  some = h.0;
  no_quote = h.1;
  bytes = h.2;
  word = sym (up_to_end w rest h.2 e.none);
  after = sym (from_end w rest h.2 e.all);
})
word_taken (text_in_quotes us) rest h e = record {
  inner = flat_map unit_text us ++ (34 ∷ rest);
  quote = ap (λ l. 34 ∷ l) (append_assoc (flat_map unit_text us) (34 ∷ []) rest);
  units = text_takes us rest h;
  ends = e.none;
}

-- a space in front of a word doesn't matter
after_space : (text : List ℕ) (w : Word) (rest : List ℕ) → TakesWord text w rest → TakesWord (32 ∷ text) w rest
after_space text (plain_word w) rest h = h
after_space text (text_in_quotes us) rest h = h

each_after_space : (text : List ℕ) (w : Word) (ws : List Word) (rest : List ℕ) → EachTaken TakesWord text (w ∷ ws) rest → EachTaken TakesWord (32 ∷ text) (w ∷ ws) rest
each_after_space text w ws rest h = (h.0, after_space text w h.0 h.1, h.2)

words_taken : (ws : List Word) → AllByRecursion IsWritable ws → EachTaken TakesWord (line_bytes ws) ws []
words_taken [] h = refl
words_taken (w ∷ []) h = ([], subst (λ (t : List ℕ). TakesWord t w []) (append-nil (word_bytes w)) (word_taken w [] h.0 (record { none = refl; all = refl })), refl)
words_taken (w ∷ v ∷ ws) h = (32 ∷ line_bytes (v ∷ ws), word_taken w (32 ∷ line_bytes (v ∷ ws)) h.0 (record { none = refl; all = refl }), each_after_space (line_bytes (v ∷ ws)) v ws [] (words_taken (v ∷ ws) h.1))

pub line_again : (ws : List Word) → AllByRecursion IsWritable ws → HasWords (line_bytes ws) ws
line_again ws h = record { end = []; words = words_taken ws h; spaces = refl }
