-- The words of a printed line are read as the slots and data that were printed.
use Rattle.std.proofs.Common.{◌≡◌, ℕ, suc, Bool, true, false, List, [], ◌∷◌, ◌++◌, Option, Some, None, option_map, map, refl, sym, ap, subst, ◌∙◌, append_assoc, add-one}
use Rattle.std.proofs.lemmas.List.{append-nil}
use Rattle.program_types.specs.Content as content
use Rattle.program_types.specs.Content.{Value, Values, no_values, more_values, Name, OfText}
use Rattle.listing_words.specs.Words.{Word, plain_word}
use Rattle.listing_slots.specs.declared.key.Key.{Key}
use Rattle.listing_slots.specs.declared.key.Key.TheVariants as key
use Rattle.listing_slots.specs.declared.slot.Slot.{Slot}
use Rattle.listing_slots.specs.declared.slot.Slot.TheVariants as slot
use Rattle.listing_slots.specs.Keys.{key_text, same, find_key, value_keys}
use Rattle.listing_slots.specs.declared.slot.Mark.TheVariants.{Target}
use Rattle.listing_slots.specs.Data.{Datum, word}
use Rattle.listing_slots.specs.Slots.{SpellsSlots, has_form, have_forms}
use Rattle.listing_slots.specs.Shown.{shown}
use Rattle.listing_slots.specs.inner.Shown.{FitsSlot}
use Rattle.listing_slots.proofs.ShownLaws.{shown_all, FitSlots, shown_form, shown_spelled}
use Rattle.listing_lines.specs.declared.form.Form.{Form}
use Rattle.listing_lines.specs.declared.form.Form.TheVariants.{One, Two}
use Rattle.listing_slots.specs.declared.due.Due.TheVariants as due
use Rattle.listing_slots.specs.Shapes.{value_slots, slot_at, due_after_word, due_after, due_of_key}
use Rattle.listing_print.specs.inner.Reading.{slots_of, data_of, words_in, FitOperands}
use Rattle.listing_print.specs.Operands.{Operand, shown_in, target_word, keyword, named_operands, truth_key, value_operands, values_operands}
use Rattle.listing_slots.proofs.ValueSlotLaws.{after_slots}

-- ---- operands as slots, data and words

-- The words of operands.
abbrev pub words_of : List Operand → List Word
words_of os = map (λ (o : Operand). shown o.slot o.value) os

words_all : (os : List Operand) → shown_all (slots_of os) (data_of os) ≡ words_of os
words_all [] = refl
words_all (o ∷ os) = ap (λ ws. shown o.slot o.value ∷ ws) (words_all os)

fits_all : (os : List Operand) → FitOperands os → FitSlots (slots_of os) (data_of os)
fits_all [] h = tt
fits_all (o ∷ os) h = (h.0, fits_all os h.1)

pub printed_spelled : (os : List Operand) → FitOperands os → SpellsSlots (slots_of os) (words_of os) (data_of os)
printed_spelled os h = subst (λ (ws : List Word). SpellsSlots (slots_of os) ws (data_of os)) (words_all os) (shown_spelled (slots_of os) (data_of os) (fits_all os h))

pub words_join : (os ps : List Operand) → words_of (os ++ ps) ≡ words_of os ++ words_of ps
words_join [] ps = refl
words_join (o ∷ os) ps = ap (λ ws. shown o.slot o.value ∷ ws) (words_join os ps)

-- ---- the same in a form

target_form : (form : Form) (most n : ℕ) → has_form (slot.Word Target most) (target_word form n) ≡ true
target_form One most n = refl
target_form Two most n = refl

form_in : (form : Form) (s : Slot) (d : Datum) → FitsSlot s d → has_form s (shown_in form s d) ≡ true
form_in form (slot.Word Target most) (word n) h = target_form form most n
form_in form s d h = shown_form s d h

pub forms_in : (form : Form) (os : List Operand) → FitOperands os → have_forms (slots_of os) (words_in form os) ≡ true
unfolding have_forms
forms_in form [] h = refl
forms_in form (o ∷ os) h = rw (form_in form o.slot o.value h.0) (forms_in form os h.1)

pub join_in : (form : Form) (os ps : List Operand) → words_in form (os ++ ps) ≡ words_in form os ++ words_in form ps
join_in form [] ps = refl
join_in form (o ∷ os) ps = ap (λ ws. shown_in form o.slot o.value ∷ ws) (join_in form os ps)

named_words : (form : Form) (which : Name) → words_in form (named_operands which) ≡ words_of (named_operands which)
named_words form (OfText us) = refl
named_words form _ = refl

-- no target stands in a value
mutual
  pub value_words : (form : Form) (v : Value) → words_in form (value_operands v) ≡ words_of (value_operands v)
  value_words form (content.Named which) = named_words form which
  value_words form (content.Array vs) =
      let c = keyword key.Close ∷ [] in
      let e : words_in form (values_operands vs ++ c) ≡ words_of (values_operands vs ++ c) = join_in form (values_operands vs) c ∙ ap (λ ws. ws ++ words_of c) (values_words form vs) ∙ sym (words_join (values_operands vs) c) in
      ap (λ ws. plain_word (key_text key.Array) ∷ plain_word (key_text key.Open) ∷ ws) e
  value_words form _ = refl

  values_words : (form : Form) (vs : Values) → words_in form (values_operands vs) ≡ words_of (values_operands vs)
  values_words form no_values = refl
  values_words form (more_values v vs) =
      join_in form (value_operands v) (values_operands vs)
      ∙ ap (λ ws. ws ++ words_in form (values_operands vs)) (value_words form v)
      ∙ ap (λ ws. words_of (value_operands v) ++ ws) (values_words form vs)
      ∙ sym (words_join (value_operands v) (values_operands vs))

-- ---- the slots of a value

after_more : (a b : List Slot) (more : Option (List Slot)) → after_slots a (after_slots b more) ≡ after_slots (a ++ b) more
after_more a b None = refl
after_more a b (Some ss) = ap Some (sym (append_assoc a b ss))

after_none : (more : Option (List Slot)) → after_slots [] more ≡ more
after_none None = refl
after_none (Some ss) = refl

after_two : (a b : Slot) (more : Option (List Slot)) → option_map (λ ss. a ∷ ss) (option_map (λ ss. b ∷ ss) more) ≡ after_slots (a ∷ b ∷ []) more
after_two a b None = refl
after_two a b (Some ss) = refl

-- a keyword, and its operand
keyword_then : (k : Key) (s : Slot) (w : Word) (n : ℕ) (rest : List Word) → same (key_text key.Close) (key_text k) ≡ false → find_key value_keys (key_text k) ≡ Some k → due_of_key n k ≡ due.Word s n
    → value_slots (due.Value n) (plain_word (key_text k) ∷ w ∷ rest) ≡ after_slots (slot.Key k ∷ s ∷ []) (value_slots (due_after n) rest)
unfolding value_slots slot_at due_after_word
keyword_then k s w n rest c f d = rw (c, f, d) (after_two (slot.Key k) s (value_slots (due_after n) rest))

-- a keyword alone
keyword_alone : (k : Key) (n : ℕ) (rest : List Word) → same (key_text key.Close) (key_text k) ≡ false → find_key value_keys (key_text k) ≡ Some k → due_of_key n k ≡ due_after n
    → value_slots (due.Value n) (plain_word (key_text k) ∷ rest) ≡ after_slots (slot.Key k ∷ []) (value_slots (due_after n) rest)
unfolding value_slots slot_at due_after_word
keyword_alone k n rest c f d = rw (c, f, d) refl

-- `}`
close_then : (n : ℕ) (rest : List Word) → value_slots (due.Value (suc n)) (plain_word (key_text key.Close) ∷ rest) ≡ after_slots (slot.Key key.Close ∷ []) (value_slots (due_after n) rest)
unfolding value_slots slot_at due_after_word same key_text
close_then n rest = refl

-- `array {`
open_then : (n : ℕ) (rest : List Word) → value_slots (due.Value n) (plain_word (key_text key.Array) ∷ plain_word (key_text key.Open) ∷ rest) ≡ after_slots (slot.Key key.Array ∷ slot.Key key.Open ∷ []) (value_slots (due.Value (suc n)) rest)
unfolding value_slots slot_at due_after_word same key_text find_key
open_then n rest = rw (add-one n) (after_two (slot.Key key.Array) (slot.Key key.Open) (value_slots (due.Value (suc n)) rest))

pub slots_join : (os ps : List Operand) → slots_of (os ++ ps) ≡ slots_of os ++ slots_of ps
slots_join [] ps = refl
slots_join (o ∷ os) ps = ap (λ ss. o.slot ∷ ss) (slots_join os ps)

truth_then : (b : Bool) (n : ℕ) (rest : List Word) → value_slots (due.Value n) (plain_word (key_text (truth_key b)) ∷ rest) ≡ after_slots (slot.Key (truth_key b) ∷ []) (value_slots (due_after n) rest)
unfolding key_text find_key same
truth_then true n rest = keyword_alone key.True n rest refl refl refl
truth_then false n rest = keyword_alone key.False n rest refl refl refl

named_then : (which : Name) (n : ℕ) (rest : List Word) → value_slots (due.Value n) (words_of (named_operands which) ++ rest) ≡ after_slots (slots_of (named_operands which)) (value_slots (due_after n) rest)
unfolding key_text find_key same
named_then (OfText us) n rest = keyword_then key.Text slot.Text _ n rest refl refl refl
named_then _ n rest = keyword_then _ _ _ n rest refl refl refl

-- the words of a value have the slots of the value, and after them stands what follows
mutual
  unfolding key_text find_key same

  pub value_then : (v : Value) (n : ℕ) (rest : List Word) → value_slots (due.Value n) (words_of (value_operands v) ++ rest) ≡ after_slots (slots_of (value_operands v)) (value_slots (due_after n) rest)
  value_then (content.Named which) n rest = named_then which n rest
  value_then (content.Array vs) n rest =
      let a = keyword key.Array ∷ keyword key.Open ∷ [] in
      let w : words_of (values_operands vs ++ (keyword key.Close ∷ [])) ++ rest ≡ words_of (values_operands vs) ++ (plain_word (key_text key.Close) ∷ rest) = ap (λ ws. ws ++ rest) (words_join (values_operands vs) (keyword key.Close ∷ [])) ∙ append_assoc (words_of (values_operands vs)) (plain_word (key_text key.Close) ∷ []) rest in
      ap (λ ws. value_slots (due.Value n) (plain_word (key_text key.Array) ∷ plain_word (key_text key.Open) ∷ ws)) w
      ∙ open_then n (words_of (values_operands vs) ++ (plain_word (key_text key.Close) ∷ rest))
      ∙ ap (after_slots (slots_of a)) (values_then vs n (plain_word (key_text key.Close) ∷ rest) ∙ ap (after_slots (slots_of (values_operands vs))) (close_then n rest) ∙ after_more (slots_of (values_operands vs)) (slot.Key key.Close ∷ []) (value_slots (due_after n) rest))
      ∙ after_more (slots_of a) (slots_of (values_operands vs) ++ (slot.Key key.Close ∷ [])) (value_slots (due_after n) rest)
      ∙ ap (λ ss. after_slots (slots_of a ++ ss) (value_slots (due_after n) rest)) (sym (slots_join (values_operands vs) (keyword key.Close ∷ [])))
  value_then content.Null n rest = keyword_alone key.Null n rest refl refl refl
  value_then (content.Boolean b) n rest = truth_then b n rest
  value_then _ n rest = keyword_then _ _ _ n rest refl refl refl

  pub values_then : (vs : Values) (n : ℕ) (rest : List Word) → value_slots (due.Value (suc n)) (words_of (values_operands vs) ++ rest) ≡ after_slots (slots_of (values_operands vs)) (value_slots (due.Value (suc n)) rest)
  values_then no_values n rest = sym (after_none (value_slots (due.Value (suc n)) rest))
  values_then (more_values v vs) n rest =
      ap (λ ws. value_slots (due.Value (suc n)) (ws ++ rest)) (words_join (value_operands v) (values_operands vs))
      ∙ ap (value_slots (due.Value (suc n))) (append_assoc (words_of (value_operands v)) (words_of (values_operands vs)) rest)
      ∙ value_then v (suc n) (words_of (values_operands vs) ++ rest)
      ∙ ap (after_slots (slots_of (value_operands v))) (values_then vs n rest)
      ∙ after_more (slots_of (value_operands v)) (slots_of (values_operands vs)) (value_slots (due.Value (suc n)) rest)
      ∙ ap (λ ss. after_slots ss (value_slots (due.Value (suc n)) rest)) (sym (slots_join (value_operands v) (values_operands vs)))

value_end : value_slots due.Nothing [] ≡ Some []
unfolding value_slots
value_end = refl

pub value_whole : (v : Value) → value_slots (due.Value 0) (words_of (value_operands v)) ≡ Some (slots_of (value_operands v))
value_whole v =
    ap (value_slots (due.Value 0)) (sym (append-nil (words_of (value_operands v)))) ∙ value_then v 0 [] ∙ ap (after_slots (slots_of (value_operands v))) value_end ∙ ap Some (append-nil (slots_of (value_operands v)))
