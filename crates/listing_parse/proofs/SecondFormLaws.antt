-- Words that have a shape in the second form are neither its first line nor a label's line.
use Rattle.std.proofs.Common.{◌≡◌, ℕ, ◌&&◌, Bool, true, false, not, inl, inr, List, [], ◌∷◌, length, Some, None, refl, ap, subst, ◌∙◌, codes}
use Rattle.std.specs.List.{AllByRecursion, list_all}
use Rattle.dex_insn.specs.Mnemonics.{IsNamed, mnemonics}
use Rattle.listing_words.specs.Words.{Word, plain_word}
use Rattle.listing_slots.specs.declared.key.Key.{Key}
use Rattle.listing_slots.specs.declared.key.Key.TheVariants as key
use Rattle.listing_slots.specs.declared.slot.Slot.{Slot}
use Rattle.listing_slots.specs.Keys.{key_text, same, find_key, lead_keys, payload_keys}
use Rattle.listing_slots.specs.Slots.{has_form, have_forms}
use Rattle.listing_slots.specs.Shapes.{Row, Shape, IsInsnRow, HasBareShape, key_row}
use Rattle.listing_lines.specs.Labels.{is_mark}
use Rattle.listing_parse.specs.Text.{is_second, begins_mark}
use Rattle.listing_slots.proofs.ShapeLaws.{all_at}
use Rattle.listing_slots.proofs.KeyLaws.{same_true}
use Rattle.dex_base.proofs.ListFacts.{by_kind, not_true}
use Rattle.listing_parse.proofs.FormLineLaws.{not_second}

-- ---- keywords

pub none_each : (ks : List Key) (text : List ℕ) → None ≡ find_key ks text → AllByRecursion (λ k. same (key_text k) text ≡ false) ks
unfolding find_key
none_each [] text e = tt
none_each (k ∷ ks) text e = elim (by_kind (same (key_text k) text)) [
  | inl f ↦ let z : None ≡ Some k = rw f at e in absurd cc
  | inr f ↦ let z : None ≡ find_key ks text = rw f at e in (f, none_each ks text z)
]

pub found_same : (ks : List Key) (text : List ℕ) (k : Key) → Some k ≡ find_key ks text → same (key_text k) text ≡ true
unfolding find_key
found_same [] text k e = absurd cc
found_same (j ∷ ks) text k e = elim (by_kind (same (key_text j) text)) [
  | inl f ↦ let z : Some k ≡ Some j = rw f at e in let q : j ≡ k = cc in subst (λ (x : Key). same (key_text x) text ≡ true) q f
  | inr f ↦ let z : Some k ≡ find_key ks text = rw f at e in found_same ks text k z
]

-- ---- the first line of the second form

pub one_after : (ss : List Slot) (w : Word) (ws : List Word) → length ss ≡ 1 → have_forms ss ws ≡ true → is_second (w ∷ ws) ≡ false
unfolding have_forms
one_after [] w ws e h = absurd cc
one_after (s ∷ []) w [] e h = refl
one_after (s ∷ []) w (v ∷ []) e h = refl
one_after (s ∷ []) w (v ∷ (x ∷ ws)) e h = absurd (by (has_form s v) h)
  where
    by : (b : Bool) → (b && false) ≡ true → ⊥
    by true k = cc
    by false k = cc
one_after (s ∷ (r ∷ ss)) w ws e h = absurd cc

one_slot : (r row : Row) → Some row ≡ Some r → length r.1 ≡ 1 → length row.1 ≡ 1
one_slot r row e h = let q : r ≡ row = cc in subst (λ (x : Row). length x.1 ≡ 1) q h

other_key : (lead : Key) (text : List ℕ) → same (key_text lead) text ≡ true → same (codes "dex") (key_text lead) ≡ false → same (codes "dex") text ≡ false
other_key lead text e f = subst (λ t. same (codes "dex") t ≡ false) (same_true (key_text lead) text e) f

keyed_second : (lead : Key) (text : List ℕ) (after : List Word) (row : Row) → same (key_text lead) text ≡ true → Some row ≡ key_row lead after → have_forms row.1 after ≡ true → is_second (plain_word text ∷ after) ≡ false
unfolding key_row key_text same
keyed_second key.Dex text after row e h f = one_after row.1 (plain_word text) after (one_slot _ row h refl) f
keyed_second key.Class text after row e h f = not_second text after (other_key key.Class text e refl)
keyed_second k text after row e h f = not_second text after (other_key k text e refl)

-- ---- a label

abbrev no_mark : List ℕ → Bool
no_mark m = not (is_mark m)

mnemonics_free : list_all no_mark mnemonics ≡ true
unfolding mnemonics
mnemonics_free = refl

named_free : (op : ℕ) (text : List ℕ) → IsNamed op text → is_mark text ≡ false
named_free op text n = not_true (is_mark text) (subst (λ t. no_mark t ≡ true) n.is (all_at no_mark mnemonics op [] mnemonics_free refl))

key_free : (k : Key) → is_mark (key_text k) ≡ false
unfolding key_text
key_free key.Dex = refl
key_free k = refl

found_free : (ks : List Key) (text : List ℕ) (k : Key) → Some k ≡ find_key ks text → is_mark text ≡ false
found_free ks text k e = subst (λ t. is_mark t ≡ false) (same_true (key_text k) text (found_same ks text k e)) (key_free k)

insn_free : (text : List ℕ) (ws : List Word) (row : Row) → IsInsnRow text ws row → is_mark text ≡ false
insn_free text ws row (inl a) = named_free a.0 text a.1
insn_free text ws row (inr a) = found_free payload_keys text a.0 a.1

pub no_line_of_form : (ws : List Word) (sh : Shape) → HasBareShape ws sh → (is_second ws ≡ false) × (begins_mark ws ≡ false)
unfolding key_text
no_line_of_form ws sh (inl b) =
    let n : same (codes "dex") b.text ≡ false = (none_each lead_keys b.text b.no_lead).0 in
    (ap is_second b.words ∙ not_second b.text b.after n, ap begins_mark b.insn.words ∙ insn_free b.insn.text b.insn.after b.row b.insn.has_row)
no_line_of_form ws sh (inr b) = (
  ap is_second b.words ∙ keyed_second b.keyed.lead b.text b.after b.row (found_same lead_keys b.text b.keyed.lead b.keyed.found) b.keyed.has_row b.keyed.forms,
  ap begins_mark b.words ∙ found_free lead_keys b.text b.keyed.lead b.keyed.found,
)
