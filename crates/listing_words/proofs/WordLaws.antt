-- The words of a line: a line has its words in one way.
use Rattle.std.proofs.Common.{◌≡◌, ◌≢◌, ℕ, ◌<◌, inl, inr, List, [], ◌∷◌, ◌++◌, length, get_or, map, refl, sym, ap, subst, ◌∙◌, arith}
use Rattle.std.specs.Prelude.{Bool, true, false, ◌==◌, MatchBool}
use Rattle.std.proofs.lemmas.List.{append-nil}
use Rattle.std.proofs.lemmas.Bool.{cases_eq, eq-eqb, ne_eqb}
use Rattle.std.specs.List.{AllByRecursion}
use Rattle.listing_words.specs.Taking.{EachTaken}
use Rattle.listing_words.specs.inner.Taking.{NoneAt}
use Rattle.listing_words.specs.Texts.{TakesUnits}
use Rattle.listing_words.specs.Words.{Word, plain_word, text_in_quotes, after_spaces, up_to_space, from_space, IsGraphic, TakesPlain, TakesText, TakesWord, HasWords}
use Rattle.listing_words.specs.inner.Words.{IsWritable}
use Rattle.listing_words.proofs.TakingLaws.{IsDecided, Each-one}
use Rattle.listing_words.specs.inner.View.{word}
use Rattle.listing_words.specs.declared.words.Word.{Word as Made}
use Rattle.listing_words.proofs.TextLaws.{units_decided}

pub up_at_other : (c : ℕ) (cs : List ℕ) → c ≢ 32 → up_to_space (c ∷ cs) ≡ c ∷ up_to_space cs
up_at_other c cs e = rw (ne_eqb c 32 e) refl

pub from_at_other : (c : ℕ) (cs : List ℕ) → c ≢ 32 → from_space (c ∷ cs) ≡ from_space cs
from_at_other c cs e = rw (ne_eqb c 32 e) refl

-- graphic bytes up to a space or the end
graphic_split : (front rest : List ℕ) → AllByRecursion IsGraphic front → up_to_space rest ≡ []
    → (up_to_space (front ++ rest) ≡ front) × (from_space (front ++ rest) ≡ rest)
graphic_split [] [] g e = (refl, refl)
graphic_split [] (c ∷ rest) g e = elim (cases_eq c 32) [
  | inl h ↦ rw (eq-eqb c 32 h) (refl, refl)
  | inr h ↦ let f = rw (ne_eqb c 32 h) at e in absurd cc
]
graphic_split (c ∷ front) rest g e =
    let m = graphic_split front rest g.1 e in
    rw (ne_eqb c 32 (λ h. omega (arith, g.0.0))) (ap (λ t. c ∷ t) m.0, m.1)

-- and up to another byte: what stands before the next space isn't graphic
graphic_cut : (front rest : List ℕ) → AllByRecursion IsGraphic front → (0 < length rest → IsGraphic (get_or rest 0 0) → ⊥) → up_to_space rest ≢ []
    → AllByRecursion IsGraphic (up_to_space (front ++ rest)) → ⊥
graphic_cut [] [] g stops some all = some refl
graphic_cut [] (c ∷ rest) g stops some all = elim (cases_eq c 32) [
  | inl h ↦ some (rw (eq-eqb c 32 h) refl)
  | inr h ↦ let a = rw (ne_eqb c 32 h) at all in stops (omega arith) a.0
]
graphic_cut (c ∷ front) rest g stops some all =
    let a = rw (ne_eqb c 32 (λ h. omega (arith, g.0.0))) at all in
    graphic_cut front rest g.1 stops some a.1

plain_or_text : (text v us r s : List ℕ) → TakesPlain text v r → TakesText text us s → ⊥
plain_or_text text v us r s p q = p.no_quote (ap (λ w. get_or w 0 0) (p.word ∙ ap up_to_space q.quote))

pub word_decided : IsDecided TakesWord
word_decided text (plain_word v) (plain_word w) r s p q = let a = p.word in let b = q.word in let c = p.after in let d = q.after in (cc, cc)
word_decided text (plain_word v) (text_in_quotes us) r s p q = absurd (plain_or_text (after_spaces text) v us r s p q)
word_decided text (text_in_quotes us) (plain_word v) r s p q = absurd (plain_or_text (after_spaces text) v us s r q p)
word_decided text (text_in_quotes us) (text_in_quotes vs) r s p q =
    let a = p.quote in let b = q.quote in let e : p.inner ≡ q.inner = cc in
    let both = units_decided q.inner us vs r s (subst (λ (t : List ℕ). TakesUnits t us r) e p.units) q.units in
    (ap text_in_quotes both.0, both.1)

-- at the end of the words only spaces stand
end_stops : (end : List ℕ) → after_spaces end ≡ [] → NoneAt TakesWord end
end_stops end e (plain_word w) rest p = let a = p.word ∙ ap up_to_space e in let b = ap length a in omega (arith, p.some)
end_stops end e (text_in_quotes us) rest p = let a = p.quote in cc

pub words_one : (line : List ℕ) (vs ws : List Word) → HasWords line vs → HasWords line ws → vs ≡ ws
words_one line vs ws p q = (Each-one TakesWord word_decided vs ws line p.end q.end p.words q.words (end_stops p.end p.spaces) (end_stops q.end q.spaces)).0

pub words_none : (line end : List ℕ) (vs : List Word) → EachTaken TakesWord line vs end → NoneAt TakesWord end → (after_spaces end ≢ []) → (ws : List Word) → HasWords line ws → ⊥
words_none line end vs p stop some ws q =
    let one = Each-one TakesWord word_decided vs ws line end q.end p q.words stop (end_stops q.end q.spaces) in
    some (ap after_spaces one.1 ∙ q.spaces)

-- after all words only spaces stand, or the line can't be cut into words
pub words_end : (line end rest : List ℕ) (vs : List Word) (b : Bool) → EachTaken TakesWord line vs end → NoneAt TakesWord end → rest ≡ after_spaces end → b ≡ (length rest == 0) → MatchBool b (HasWords line vs) ((ws : List Word) → HasWords line ws → ⊥)
words_end line end [] vs b h stop e f = rw f (record { end = end; words = h; spaces = sym e })
words_end line end (x ∷ rest) vs b h stop e f = let n : (length (x ∷ rest) == 0) ≡ false = ne_eqb (length (x ∷ rest)) 0 (λ z. omega arith) in rw (f, n) (words_none line end vs h stop (λ g. let k = e ∙ g in cc))

-- ---- what the reader meets

after_not_space : (line : List ℕ) (c : ℕ) (cs : List ℕ) → after_spaces line ≡ c ∷ cs → c ≢ 32
after_not_space [] c cs e = absurd cc
after_not_space (d ∷ ds) c cs e = elim (cases_eq d 32) [
  | inl h ↦ after_not_space ds c cs (rw (eq-eqb d 32 h) at e)
  | inr h ↦ let f = rw (ne_eqb d 32 h) at e in let g : d ≡ c = cc in λ i. h (g ∙ i)
]

plain_long : (line : List ℕ) (c : ℕ) (cs : List ℕ) → after_spaces line ≡ c ∷ cs → 0 < length (up_to_space (after_spaces line))
plain_long line c cs e = rw (e, up_at_other c cs (after_not_space line c cs e)) (omega arith)

pub plain_found : (line : List ℕ) (c : ℕ) (cs w rest : List ℕ) → after_spaces line ≡ c ∷ cs → c ≢ 34 → after_spaces line ≡ w ++ rest → AllByRecursion IsGraphic w
    → up_to_space rest ≡ [] → TakesPlain (after_spaces line) w rest
plain_found line c cs w rest e n joined all ends =
    let both = graphic_split w rest all ends in
    let word : w ≡ up_to_space (after_spaces line) = sym (ap up_to_space joined ∙ both.0) in
    record {
      some = rw word (plain_long line c cs e);
      no_quote = λ h. n (sym (ap (λ (l : List ℕ). get_or l 0 0) (word ∙ ap up_to_space e ∙ up_at_other c cs (after_not_space line c cs e))) ∙ h);
      bytes = all;
      word = word;
      after = sym (ap from_space joined ∙ both.1);
    }

pub plain_some : (line : List ℕ) (c : ℕ) (cs w rest : List ℕ) → after_spaces line ≡ c ∷ cs → after_spaces line ≡ w ++ rest → AllByRecursion IsGraphic w → up_to_space rest ≡ []
    → 0 < length w
plain_some line c cs w rest e joined all ends =
    omega (arith, plain_long line c cs e, ap length (ap up_to_space joined ∙ (graphic_split w rest all ends).0))

pub plain_cut : (line : List ℕ) (c : ℕ) (cs front rest : List ℕ) → after_spaces line ≡ c ∷ cs → c ≢ 34 → after_spaces line ≡ front ++ rest → AllByRecursion IsGraphic front
    → (0 < length rest → IsGraphic (get_or rest 0 0) → ⊥) → up_to_space rest ≢ [] → NoneAt TakesWord line
plain_cut line c cs front rest e n joined all stops some (plain_word w) more p =
    graphic_cut front rest all stops some (subst (λ t. AllByRecursion IsGraphic t) (p.word ∙ ap up_to_space joined) p.bytes)
plain_cut line c cs front rest e n joined all stops some (text_in_quotes us) more p =
    let q = p.quote in let f : c ≡ 34 = cc in n f

quoted_not_plain : (text inner w rest : List ℕ) → text ≡ 34 ∷ inner → TakesPlain text w rest → ⊥
quoted_not_plain text inner w rest e p = p.no_quote (ap (λ (l : List ℕ). get_or l 0 0) (p.word ∙ ap up_to_space e))

pub quoted_none : (line inner : List ℕ) → after_spaces line ≡ 34 ∷ inner → NoneAt TakesUnits inner → NoneAt TakesWord line
quoted_none line inner e none (plain_word w) rest p = quoted_not_plain (after_spaces line) inner w rest e p
quoted_none line inner e none (text_in_quotes us) rest p =
    let q = p.quote in let f : p.inner ≡ inner = cc in none us rest (subst (λ (t : List ℕ). TakesUnits t us rest) f p.units)

pub quoted_open : (line inner us rest : List ℕ) → after_spaces line ≡ 34 ∷ inner → TakesUnits inner us rest → up_to_space rest ≢ [] → NoneAt TakesWord line
quoted_open line inner us rest e u n (plain_word w) more p = quoted_not_plain (after_spaces line) inner w more e p
quoted_open line inner us rest e u n (text_in_quotes vs) more p =
    let q = p.quote in let f : p.inner ≡ inner = cc in
    let both = units_decided inner us vs rest more u (subst (λ (t : List ℕ). TakesUnits t vs more) f p.units) in
    n (ap up_to_space both.1 ∙ p.ends)

pub said_push : (ws : List Made) (w : Made) → map word (ws ++ w ∷ []) ≡ map word ws ++ word w ∷ []
said_push [] w = refl
said_push (v ∷ ws) w = ap (λ l. word v ∷ l) (said_push ws w)

-- ---- a word and nothing else

graphic_there : (front : List ℕ) (c : ℕ) (rest : List ℕ) → AllByRecursion IsGraphic (front ++ (c ∷ rest)) → IsGraphic c
graphic_there [] c rest h = h.0
graphic_there (d ∷ front) c rest h = graphic_there front c rest h.1

pub whole_word : (text front rest : List ℕ) (c : ℕ) (cs : List ℕ) (b : Bool) → text ≡ front ++ rest → front ≡ c ∷ cs → c ≢ 34 → AllByRecursion IsGraphic front → (0 < length rest → IsGraphic (get_or rest 0 0) → ⊥) → b ≡ (length rest == 0)
    → (b ≡ true → IsWritable (plain_word text)) × (IsWritable (plain_word text) → b ≡ true)
whole_word text front [] c cs b j e n g stops is =
    let t : text ≡ c ∷ cs = j ∙ append-nil front ∙ e in
    let all = subst (AllByRecursion IsGraphic) e g in
    (λ z. rw t (omega arith, (λ q. n q), all), λ z. is)
whole_word text front (x ∷ rest) c cs b j e n g stops is =
    let k : b ≡ false = is ∙ ne_eqb (length (x ∷ rest)) 0 (λ z. omega arith) in
    (λ z. absurd (let w = sym k ∙ z in cc), λ h. absurd (stops (omega arith) (graphic_there front x rest (subst (AllByRecursion IsGraphic) j h.2))))
