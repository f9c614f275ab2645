-- Lines that say nothing of the program.
use Rattle.std.proofs.Common.{◌≡◌, ◌≢◌, ℕ, ◌==◌, Bool, true, false, List, [], ◌∷◌, Option, Some, None, length, map, refl, ap, ◌∙◌, arith, codes}
use Rattle.std.proofs.lemmas.Bool.{eq-eqb, ne_eqb}
use Rattle.listing_lines.specs.Labels.{Label, is_label, lookup}
use Rattle.listing_lines.specs.inner.View.{place_in}
use Rattle.listing_lines.specs.declared.known.Place.{Place}
use Rattle.listing_parse.specs.States.{stage_of}
use Rattle.listing_lines.specs.Forms.{is_two}
use Rattle.listing_lines.specs.Places.{is_start, is_insns}
use Rattle.listing_words.specs.Words.{Word, plain_word}
use Rattle.listing_words.specs.inner.View.{word}
use Rattle.listing_words.specs.declared.words.Word.{Word as Made}
use Rattle.listing_parse.specs.Text.{Reading, is_on, is_second, line_of_label, line_of_mark, line_of_form}
use Rattle.listing_parse.specs.declared.form_line.FormLine.{FormLine}
use Rattle.listing_parse.specs.declared.form_line.FormLine.TheVariants.{Nothing, Refused, First, Mark}
use Rattle.dex_base.proofs.ListFacts.{or_last}
use Rattle.listing_slots.specs.Keys.{same}

-- the place is of this line
abbrev place_on : ℕ → Option Place → Bool
place_on line None = true
place_on line (Some p) = p.line == line

on_place : (line : ℕ) (o : Option Label) → is_on line o ≡ place_on line (place_in o)
on_place line None = refl
on_place line (Some l) = refl

pub label_here : (r : Reading) (w : List ℕ) (p : Place) → is_label w ≡ true → place_in (lookup w r.labels) ≡ Some p → p.line ≡ r.base.lines → Mark ≡ line_of_label r w
label_here r w p a b e = rw (a, on_place r.base.lines (lookup w r.labels), b, eq-eqb p.line r.base.lines e) refl

pub label_there : (r : Reading) (w : List ℕ) (p : Place) → is_label w ≡ true → place_in (lookup w r.labels) ≡ Some p → p.line ≢ r.base.lines → Refused 104 ≡ line_of_label r w
label_there r w p a b e = rw (a, on_place r.base.lines (lookup w r.labels), b, ne_eqb p.line r.base.lines e) refl

-- ---- the first line of the second form

pub not_second : (text : List ℕ) (ws : List Word) → same (codes "dex") text ≡ false → is_second (plain_word text ∷ ws) ≡ false
not_second text (a ∷ b ∷ c ∷ []) e = rw e refl
not_second text _ e = refl

pub second_first : (r : Reading) (ws : List Word) → is_second ws ≡ true → is_start (stage_of r.base.block) ≡ true → First ≡ line_of_form r ws
unfolding line_of_form
second_first r ws a b = rw (a, b, or_last (is_two r.form)) refl

pub second_late : (r : Reading) (ws : List Word) → is_second ws ≡ true → is_start (stage_of r.base.block) ≡ false → is_two r.form ≡ true → Refused 103 ≡ line_of_form r ws
unfolding line_of_form
second_late r ws a b d = rw (a, b, d) refl

pub second_elsewhere : (r : Reading) (ws : List Word) → is_second ws ≡ true → is_start (stage_of r.base.block) ≡ false → is_two r.form ≡ false → Nothing ≡ line_of_form r ws
unfolding line_of_form
second_elsewhere r ws a b d = rw (a, b, d) refl

-- ---- a word that begins with `:`

pub lone : (ws rest : List Made) (x : Made) (name : List ℕ) → ws ≡ x ∷ rest → length rest ≡ 0 → word x ≡ plain_word name → map word ws ≡ plain_word name ∷ []
lone ws [] x name e l f = ap (map word) e ∙ ap (λ (w : Word). w ∷ []) f
lone ws (y ∷ rest) x name e l f = absurd (omega (arith, l))

pub mark_misplaced : (r : Reading) (ws : List Word) (name : List ℕ) → ws ≡ plain_word name ∷ [] → is_insns (stage_of r.base.block) ≡ false → Refused 103 ≡ line_of_mark r ws
mark_misplaced r ws name e a = rw (e, a) refl

pub mark_placed : (r : Reading) (ws : List Word) (name : List ℕ) (x : FormLine) → ws ≡ plain_word name ∷ [] → is_insns (stage_of r.base.block) ≡ true → x ≡ line_of_label r name → x ≡ line_of_mark r ws
mark_placed r ws name x e a l = rw (e, a) l
