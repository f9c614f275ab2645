-- Whole lines one after the other.
use Rattle.std.proofs.Common.{◌≡◌, ◌≢◌, ℕ, ◌/◌, ◌%◌, inl, inr, List, [], ◌∷◌, ◌++◌, None, refl, sym, ap, subst, ◌∙◌, append_assoc, arith}
use Rattle.std.proofs.lemmas.Bool.{ne_eqb, cases_eq, cases_lt, lt-ltb, le-ltb}
use Rattle.std.proofs.lemmas.List.{append-nil}
use Rattle.std.specs.List.{flat_map, AllByRecursion}
use Rattle.program_types.specs.Content.{Program}
use Rattle.program_rules.specs.WellFormed.{WellFormed}
use Rattle.listing_words.specs.Texts.{glyph, escape_text, unit_text}
use Rattle.listing_words.specs.Words.{Word, plain_word, text_in_quotes, IsGraphic, word_bytes}
use Rattle.listing_words.specs.inner.Words.{IsWritable, line_bytes}
use Rattle.listing_parse.specs.States.{at_top, State, start}
use Rattle.listing_lines.specs.Splitting.{lines}
use Rattle.listing_parse.specs.Text.{Reading, TakesLine, Reads, IsListing}
use Rattle.listing_lines.specs.declared.form.Form.TheVariants.{One}
use Rattle.listing_laws.proofs.Runs.{Frame, bare, at, RunsInto, RunsTo}
use Rattle.dex_base.proofs.ListFacts.{all_append}

pub runs_joined : (f g h : Frame) (s t u : State) (a b : List ℕ) → RunsInto f s a g t → RunsInto g t b h u → RunsInto f s (a ++ b) h u
runs_joined f g h s t u a b x y rest v r = subst (λ (t : List ℕ). Reads (at f s) (lines t) [] v) (sym (append_assoc a b rest)) (x (b ++ rest) v (y rest v r))

pub runs_join : (f : Frame) (s t u : State) (a b : List ℕ) → RunsTo f s a t → RunsTo f t b u → RunsTo f s (a ++ b) u
runs_join f s t u a b x y = runs_joined f f f s t u a b x y

no_lines : lines [] ≡ []
unfolding lines
no_lines = refl

pub runs_whole : (g : Frame) (text : List ℕ) (p : Program) (t : State) → RunsInto (bare One) start text g t → t.block ≡ at_top → t.late ≡ None → t.done ≡ p → WellFormed p → IsListing text p
runs_whole g text p t x top late done formed = record {
  end = at g t;
  read = subst (λ (b : List ℕ). Reads (at (bare One) start) (lines b) [] (at g t)) (append-nil text) (x [] (at g t) (subst (λ (ls : List (List ℕ)). Reads (at g t) ls [] (at g t)) (sym no_lines) refl));
  whole = top;
  targets = late;
  classes = done;
  formed = formed;
}

-- no line feed
abbrev pub IsLine : List ℕ → Type 0
IsLine l = AllByRecursion (λ c. c ≢ 10) l

pub line_first : (l rest : List ℕ) → IsLine l → lines (l ++ (10 ∷ rest)) ≡ l ∷ lines rest
unfolding lines
line_first [] rest h = refl
line_first (c ∷ cs) rest h = rw (ne_eqb c 10 h.0, line_first cs rest h.1) refl

-- a line and its feed, and the text after it
pub line_is_first : (l text rest : List ℕ) → IsLine l → lines (((l ++ 10 ∷ []) ++ text) ++ rest) ≡ l ∷ lines (text ++ rest)
line_is_first l text rest h = ap lines (append_assoc (l ++ 10 ∷ []) text rest ∙ append_assoc l (10 ∷ []) (text ++ rest)) ∙ line_first l (text ++ rest) h

pub line_reads : (s t : Reading) (l text rest : List ℕ) (u : Reading) → IsLine l → TakesLine s (lines (text ++ rest) ++ []) l t → Reads t (lines (text ++ rest)) [] u → Reads s (lines (((l ++ 10 ∷ []) ++ text) ++ rest)) [] u
line_reads s t l text rest u h k r = subst (λ (ls : List (List ℕ)). Reads s ls [] u) (sym (line_is_first l text rest h)) (t, k, r)

pub line_runs : (f g : Frame) (s t : State) (l : List ℕ) → IsLine l → ((ls : List (List ℕ)) → TakesLine (at f s) ls l (at g t)) → RunsInto f s (l ++ 10 ∷ []) g t
line_runs f g s t l h k rest u r =
    let e : lines ((l ++ 10 ∷ []) ++ rest) ≡ l ∷ lines rest = ap lines (append_assoc l (10 ∷ []) rest) ∙ line_first l rest h in
    subst (λ (ls : List (List ℕ)). Reads (at f s) ls [] u) (sym e) (at g t, k (lines rest ++ []), r)

-- ---- written words have no line feed

pub graphic_line : (w : List ℕ) → AllByRecursion IsGraphic w → IsLine w
graphic_line [] h = tt
graphic_line (c ∷ w) h = ((λ e. let g = h.0.0 in omega arith), graphic_line w h.1)

glyph_line : (d : ℕ) → glyph d ≢ 10
glyph_line d e = elim (cases_lt d 10) [
  | inl l ↦ let f = rw (lt-ltb d 10 l) at e in omega arith
  | inr l ↦ let f = rw (le-ltb d 10 l) at e in omega arith
]

escape_line : (u : ℕ) → IsLine (escape_text u)
escape_line u = ((λ e. omega arith), ((λ e. omega arith), (glyph_line (u / 4096 % 16), (glyph_line (u / 256 % 16), (glyph_line (u / 16 % 16), (glyph_line (u % 16), tt))))))

unit_line : (u : ℕ) → IsLine (unit_text u)
unit_line u = elim (cases_eq u 34) [
  | inl e ↦ rw e ((λ f. omega arith), ((λ f. omega arith), tt))
  | inr a ↦ elim (cases_eq u 92) [
    | inl e ↦ rw e ((λ f. omega arith), ((λ f. omega arith), tt))
    | inr b ↦ elim (cases_lt 31 u) [
      | inl c ↦ elim (cases_lt u 127) [
        | inl d ↦ rw (ne_eqb u 34 a, ne_eqb u 92 b, lt-ltb 31 u c, lt-ltb u 127 d) ((λ f. omega arith), tt)
        | inr d ↦ rw (ne_eqb u 34 a, ne_eqb u 92 b, lt-ltb 31 u c, le-ltb u 127 d) (escape_line u)
      ]
      | inr c ↦ rw (ne_eqb u 34 a, ne_eqb u 92 b, le-ltb 31 u c) (escape_line u)
    ]
  ]
]

units_line : (us : List ℕ) → IsLine (flat_map unit_text us)
units_line [] = tt
units_line (u ∷ us) = all_append (λ c. c ≢ 10) (unit_text u) (flat_map unit_text us) (unit_line u) (units_line us)

pub word_line : (w : Word) → IsWritable w → IsLine (word_bytes w)
word_line (plain_word w) h = graphic_line w h.2
word_line (text_in_quotes us) h = ((λ e. omega arith), all_append (λ c. c ≢ 10) (flat_map unit_text us) (34 ∷ []) (units_line us) ((λ e. omega arith), tt))

-- each word but the first after a space
abbrev pub spaced_words : List Word → List ℕ
spaced_words ws = flat_map (λ v. 32 ∷ word_bytes v) ws

pub line_is : (w : Word) (ws : List Word) → line_bytes (w ∷ ws) ≡ word_bytes w ++ spaced_words ws
line_is w [] = sym (append-nil (word_bytes w))
line_is w (v ∷ ws) = ap (λ t. word_bytes w ++ (32 ∷ t)) (line_is v ws)

spaces_line : (ws : List Word) → AllByRecursion IsWritable ws → IsLine (spaced_words ws)
spaces_line [] h = tt
spaces_line (w ∷ ws) h = ((λ e. omega arith), all_append (λ c. c ≢ 10) (word_bytes w) (spaced_words ws) (word_line w h.0) (spaces_line ws h.1))

pub words_line : (w : Word) (ws : List Word) → IsWritable w → AllByRecursion IsWritable ws → IsLine (line_bytes (w ∷ ws))
words_line w ws h k = rw (line_is w ws) (all_append (λ c. c ≢ 10) (word_bytes w) (spaced_words ws) (word_line w h) (spaces_line ws k))
