-- What is read of the words of a value, word by word.
use Rattle.std.proofs.Common.{◌≡◌, Bool, true, false, if◌then◌else◌, List, [], ◌∷◌, Option, Some, None, option_map, refl, ap, subst}
use Rattle.listing_words.specs.Words.{Word}
use Rattle.listing_slots.specs.declared.slot.Slot.{Slot}
use Rattle.listing_slots.specs.Data.{Datum}
use Rattle.listing_slots.specs.Slots.{SpellsSlot, SpellsSlots, has_form, have_forms}
use Rattle.listing_slots.specs.declared.due.Due.{Due}
use Rattle.listing_slots.specs.Shapes.{slot_at, due_after_word, is_whole, value_slots}
use Rattle.std.proofs.lemmas.Bool.{and_parts}

-- from what is due, the words say this, and then a value is whole
abbrev pub Runs : Due → List Word → List Datum → Type 0
Runs d [] [] = is_whole d ≡ true
Runs d (w ∷ ws) (x ∷ ds) = (has_form (slot_at d w) w ≡ true) × SpellsSlot (slot_at d w) w x × Runs (due_after_word d w) ws ds
Runs _ _ _ = ⊥

pub whole_of : (b : Bool) (ss : List Slot) → (if b then Some [] else None) ≡ Some ss → (b ≡ true) × (ss ≡ [])
whole_of true ss e = (refl, cc)
whole_of false ss e = absurd cc

pub more_of : (s : Slot) (o : Option (List Slot)) (ss : List Slot) → option_map (λ more. s ∷ more) o ≡ Some ss → (more : List Slot) × (o ≡ Some more) × (ss ≡ s ∷ more)
more_of s None ss e = absurd cc
more_of s (Some more) ss e = (more, refl, cc)

pub run_of : (d : Due) (ws : List Word) (ss : List Slot) (ds : List Datum) → value_slots d ws ≡ Some ss → have_forms ss ws ≡ true → SpellsSlots ss ws ds → Runs d ws ds
unfolding value_slots have_forms
run_of d [] ss [] e f g = (whole_of (is_whole d) ss e).0
run_of d [] ss (x ∷ ds) e f g = absurd (subst (λ (ts : List Slot). SpellsSlots ts [] (x ∷ ds)) (whole_of (is_whole d) ss e).1 g)
run_of d (w ∷ ws) ss [] e f g = absurd (subst (λ (ts : List Slot). SpellsSlots ts (w ∷ ws) []) (more_of (slot_at d w) (value_slots (due_after_word d w) ws) ss e).2 g)
run_of d (w ∷ ws) ss (x ∷ ds) e f g =
    let m = more_of (slot_at d w) (value_slots (due_after_word d w) ws) ss e in
    let b = and_parts (has_form (slot_at d w) w) (have_forms m.0 ws) (subst (λ (ts : List Slot). have_forms ts (w ∷ ws) ≡ true) m.2 f) in
    let h : SpellsSlots (slot_at d w ∷ m.0) (w ∷ ws) (x ∷ ds) = subst (λ (ts : List Slot). SpellsSlots ts (w ∷ ws) (x ∷ ds)) m.2 g in
    (b.0, h.0, run_of (due_after_word d w) ws m.0 ds m.1 b.1 h.1)

pub slots_of_run : (d : Due) (ws : List Word) (ds : List Datum) → Runs d ws ds → (ss : List Slot) × (value_slots d ws ≡ Some ss) × (have_forms ss ws ≡ true) × SpellsSlots ss ws ds
unfolding value_slots have_forms
slots_of_run d [] [] r = ([], rw r refl, refl, tt)
slots_of_run d (w ∷ ws) (x ∷ ds) r =
    let h = slots_of_run (due_after_word d w) ws ds r.2 in
    (slot_at d w ∷ h.0, ap (option_map (λ more. slot_at d w ∷ more)) h.1, rw r.0 h.2, (r.1, h.3))
slots_of_run d _ _ r = absurd r

-- the same words and data, put otherwise
pub carried : (d : Due) {us ws : List Word} {xs ds : List Datum} → us ≡ ws → xs ≡ ds → Runs d us xs → Runs d ws ds
carried d {us} {ws} {xs} {ds} e f r = subst (λ (ys : List Datum). Runs d ws ys) f (subst (λ (vs : List Word). Runs d vs xs) e r)
