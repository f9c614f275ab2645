-- What is spelled as a value is read as it.
use Rattle.std.proofs.Common.{◌≡◌, ℕ, suc, true, false, List, [], ◌∷◌, ◌++◌, refl, sym, ap, subst, ◌∙◌, append_assoc, add-one}
use Rattle.std.proofs.lemmas.List.{append-nil}
use Rattle.program_types.specs.Content as content
use Rattle.program_types.specs.Content.{OfText, OfDesc, OfField, OfMethod, Value, Values, no_values, more_values}
use Rattle.listing_words.specs.Words.{Word, plain_word}
use Rattle.listing_slots.specs.declared.key.Key.{Key}
use Rattle.listing_slots.specs.declared.key.Key.TheVariants as key
use Rattle.listing_slots.specs.declared.slot.Mark.TheVariants.{Nothing}
use Rattle.listing_slots.specs.declared.slot.Slot.{Slot}
use Rattle.listing_slots.specs.declared.slot.Slot.TheVariants as slot
use Rattle.listing_slots.specs.Data.{Datum, half, word, wide, tiny, short, int, long, named, constant, key_word}
use Rattle.listing_slots.specs.Keys.{key_text, same, find_key}
use Rattle.listing_slots.specs.Slots.{SpellsSlot, has_form}
use Rattle.listing_slots.proofs.ShownLaws.{same_refl}
use Rattle.listing_slots.specs.declared.due.Due.TheVariants as due
use Rattle.listing_slots.specs.Shapes.{slot_at, due_after_word, due_after}
use Rattle.listing_print.specs.Operands.{value_operands, values_operands}
use Rattle.listing_print.specs.Operands as print
use Rattle.listing_print.specs.inner.Reading.{data_of}
use Rattle.listing_print.proofs.MadeLaws.{data_join, value_made}
use Rattle.listing_laws.specs.inner.Values.{word_of_key, ValueText, ValuesText, IsReadAsValue}
use Rattle.listing_laws.proofs.WordRuns.{Runs, slots_of_run, carried}

-- ---- keywords

operand_run : (s : Slot) (n : ℕ) (w : Word) (x : Datum) (rest : List Word) (ds : List Datum) → has_form s w ≡ true → SpellsSlot s w x → Runs (due_after n) rest ds → Runs (due.Word s n) (w ∷ rest) (x ∷ ds)
unfolding slot_at due_after_word
operand_run s n w x rest ds f g r = (f, g, r)

-- a keyword, and its operand
before_run : (k : Key) (s : Slot) (n : ℕ) (w : Word) (x : Datum) (ws rest : List Word) (ds : List Datum) → slot_at (due.Value n) (word_of_key k) ≡ slot.Key k → due_after_word (due.Value n) (word_of_key k) ≡ due.Word s n
    → ws ≡ word_of_key k ∷ w ∷ [] → has_form s w ≡ true → SpellsSlot s w x → Runs (due_after n) rest ds → Runs (due.Value n) (ws ++ rest) (key_word k ∷ x ∷ ds)
before_run k s n w x ws rest ds a b e f g r =
    carried (due.Value n) {us = word_of_key k ∷ w ∷ rest} {xs = key_word k ∷ x ∷ ds} (ap (λ vs. vs ++ rest) (sym e)) refl (
      rw a (same_refl (key_text k)),
      subst (λ (t : Slot). SpellsSlot t (word_of_key k) (key_word k)) (sym a) refl,
      rw b (operand_run s n w x rest ds f g r),
    )

-- a keyword alone
alone_run : (k : Key) (n : ℕ) (ws rest : List Word) (ds : List Datum) → slot_at (due.Value n) (word_of_key k) ≡ slot.Key k → due_after_word (due.Value n) (word_of_key k) ≡ due_after n
    → ws ≡ word_of_key k ∷ [] → Runs (due_after n) rest ds → Runs (due.Value n) (ws ++ rest) (key_word k ∷ ds)
alone_run k n ws rest ds a b e r =
    carried (due.Value n) {us = word_of_key k ∷ rest} {xs = key_word k ∷ ds} (ap (λ vs. vs ++ rest) (sym e)) refl (
      rw a (same_refl (key_text k)),
      subst (λ (t : Slot). SpellsSlot t (word_of_key k) (key_word k)) (sym a) refl,
      rw b r,
    )

-- `array {`
open_run : (n : ℕ) (rest : List Word) (ds : List Datum) → Runs (due.Value (suc n)) rest ds → Runs (due.Value n) (word_of_key key.Array ∷ word_of_key key.Open ∷ rest) (key_word key.Array ∷ key_word key.Open ∷ ds)
unfolding slot_at due_after_word key_text find_key same
open_run n rest ds r = (refl, refl, (refl, refl, rw (add-one n) r))

-- `}`
close_run : (n : ℕ) (rest : List Word) (ds : List Datum) → Runs (due_after n) rest ds → Runs (due.Value (suc n)) (word_of_key key.Close ∷ rest) (key_word key.Close ∷ ds)
unfolding slot_at due_after_word key_text find_key same
close_run n rest ds r = (refl, refl, r)

-- a word without quotes has the form of the slot
pub plain_form : (s : Slot) (w : Word) (t : List ℕ) → w ≡ plain_word t → has_form s (plain_word t) ≡ true → has_form s w ≡ true
plain_form s w t e f = subst (λ (v : Word). has_form s v ≡ true) (sym e) f

-- ---- values

mutual
  unfolding slot_at due_after_word key_text find_key same

  value_run : (v : Value) (ws : List Word) → ValueText ws v → (n : ℕ) (rest : List Word) (ds : List Datum) → Runs (due_after n) rest ds → Runs (due.Value n) (ws ++ rest) (data_of (value_operands v) ++ ds)
  value_run (content.Byte z) ws h n rest ds r = before_run key.Byte slot.Tiny n h.0 (tiny z) ws rest ds refl refl h.1 (plain_form slot.Tiny h.0 h.2.digits h.2.joined refl) (z, h.2, refl) r
  value_run (content.Short z) ws h n rest ds r = before_run key.Short slot.Short n h.0 (short z) ws rest ds refl refl h.1 (plain_form slot.Short h.0 h.2.digits h.2.joined refl) (z, h.2, refl) r
  value_run (content.Char k) ws h n rest ds r = before_run key.Char (slot.Half Nothing 65535) n h.0 (half k) ws rest ds refl refl h.1 (plain_form (slot.Half Nothing 65535) h.0 h.2.digits h.2.joined refl) (k, h.2, refl) r
  value_run (content.Int z) ws h n rest ds r = before_run key.Int slot.Int n h.0 (int z) ws rest ds refl refl h.1 (plain_form slot.Int h.0 h.2.digits h.2.joined refl) (z, h.2, refl) r
  value_run (content.Long z) ws h n rest ds r = before_run key.Long slot.Long n h.0 (long z) ws rest ds refl refl h.1 (plain_form slot.Long h.0 h.2.digits h.2.joined refl) (z, h.2, refl) r
  value_run (content.Float k) ws h n rest ds r = let s = h.2 in before_run key.Float slot.Float n h.0 (word k) ws rest ds refl refl h.1 (plain_form slot.Float h.0 s.0 s.1 refl) (k, s, refl) r
  value_run (content.Double k) ws h n rest ds r = let s = h.2 in before_run key.Double slot.Double n h.0 (wide k) ws rest ds refl refl h.1 (plain_form slot.Double h.0 s.0 s.1 refl) (k, s, refl) r
  value_run (content.Named (OfText us)) ws h n rest ds r = before_run key.Text slot.Text n h.0 (named (OfText us)) ws rest ds refl refl h.1 (subst (λ (w : Word). has_form slot.Text w ≡ true) (sym h.2) refl) (us, h.2, refl) r
  value_run (content.Named (OfDesc d)) ws h n rest ds r = let s = h.2 in before_run key.Desc slot.Desc n h.0 (named (OfDesc d)) ws rest ds refl refl h.1 (plain_form slot.Desc h.0 s.0 s.2 refl) (d, s, refl) r
  value_run (content.Named (OfField f)) ws h n rest ds r = let s = h.2 in before_run key.Field slot.Field n h.0 (named (OfField f)) ws rest ds refl refl h.1 (plain_form slot.Field h.0 s.0 s.2 refl) (f, s, refl) r
  value_run (content.Named (OfMethod m)) ws h n rest ds r = let s = h.2 in before_run key.Method slot.Method n h.0 (named (OfMethod m)) ws rest ds refl refl h.1 (plain_form slot.Method h.0 s.0 s.2 refl) (m, s, refl) r
  value_run (content.Enum f) ws h n rest ds r = let s = h.2 in before_run key.Enum slot.Enum n h.0 (constant f) ws rest ds refl refl h.1 (plain_form slot.Enum h.0 s.0 s.2 refl) (f, s, refl) r
  value_run (content.Array vs) ws h n rest ds r =
      let inner = h.0 in
      let close = word_of_key key.Close in
      let words : word_of_key key.Array ∷ word_of_key key.Open ∷ (inner ++ (close ∷ rest)) ≡ ws ++ rest =
      ap (λ us. word_of_key key.Array ∷ word_of_key key.Open ∷ us) (sym (append_assoc inner (close ∷ []) rest)) ∙ ap (λ us. us ++ rest) (sym h.1) in
      let data_are : key_word key.Array ∷ key_word key.Open ∷ (data_of (values_operands vs) ++ (key_word key.Close ∷ ds)) ≡ data_of (value_operands (content.Array vs)) ++ ds =
      ap (λ xs. key_word key.Array ∷ key_word key.Open ∷ xs) (sym (append_assoc (data_of (values_operands vs)) (key_word key.Close ∷ []) ds) ∙ ap (λ xs. xs ++ ds) (sym (data_join (values_operands vs) (print.keyword key.Close ∷ [])))) in
      carried (due.Value n) words data_are (open_run n _ _ (values_run vs inner h.2 n (close ∷ rest) (key_word key.Close ∷ ds) (close_run n rest ds r)))
  value_run content.Null ws h n rest ds r = alone_run key.Null n ws rest ds refl refl h r
  value_run (content.Boolean true) ws h n rest ds r = alone_run key.True n ws rest ds refl refl h r
  value_run (content.Boolean false) ws h n rest ds r = alone_run key.False n ws rest ds refl refl h r

  values_run : (vs : Values) (ws : List Word) → ValuesText ws vs → (n : ℕ) (rest : List Word) (ds : List Datum) → Runs (due.Value (suc n)) rest ds → Runs (due.Value (suc n)) (ws ++ rest) (data_of (values_operands vs) ++ ds)
  values_run no_values ws h n rest ds r = carried (due.Value (suc n)) {us = rest} {xs = ds} (ap (λ us. us ++ rest) (sym h)) refl r
  values_run (more_values v vs) ws h n rest ds r =
      let front = h.0 in
      let back = h.1 in
      let words : front ++ (back ++ rest) ≡ ws ++ rest = sym (append_assoc front back rest) ∙ ap (λ us. us ++ rest) (sym h.2) in
      let data_are : data_of (value_operands v) ++ (data_of (values_operands vs) ++ ds) ≡ data_of (values_operands (more_values v vs)) ++ ds =
      sym (append_assoc (data_of (value_operands v)) (data_of (values_operands vs)) ds) ∙ ap (λ xs. xs ++ ds) (sym (data_join (value_operands v) (values_operands vs))) in
      carried (due.Value (suc n)) words data_are (value_run v front h.3 (suc n) (back ++ rest) _ (values_run vs back h.4 n rest ds r))

pub spelled_is_read : (ws : List Word) (v : Value) → ValueText ws v → IsReadAsValue ws v
spelled_is_read ws v h =
    let r = carried (due.Value 0) (append-nil ws) (append-nil (data_of (value_operands v))) (value_run v ws h 0 [] [] refl) in
    let s = slots_of_run (due.Value 0) ws (data_of (value_operands v)) r in
    record { slots = s.0; has_slots = s.1; forms = s.2; word_values = data_of (value_operands v); spelled = s.3; made = value_made v }
