-- Slots of values.
use Rattle.std.proofs.Common.{◌≡◌, ℕ, ◌+◌, ◌<◌, ◌≤◌, Bool, true, false, if◌then◌else◌, List, [], ◌∷◌, ◌++◌, length, get_or, drop, map, Option, Some, None, option_map, MatchBool, refl, sym, ap, ◌∙◌, append_assoc, add-one, drop-cons, drop_of_length-le}
use Rattle.std.proofs.lemmas.List.{append-nil}
use Rattle.listing_words.specs.inner.View.{word}
use Rattle.listing_words.specs.declared.words.Word.{Word as Made}
use Rattle.listing_slots.specs.declared.slot.Slot.{Slot}
use Rattle.listing_slots.specs.declared.due.Due.{Due}
use Rattle.listing_slots.specs.Shapes.{slot_at, due_after_word, is_whole, value_slots}

-- after the slots of some words, what is due after them
abbrev pub after_slots : List Slot → Option (List Slot) → Option (List Slot)
after_slots done more = option_map (λ ss. done ++ ss) more

after_push : (done : List Slot) (s : Slot) (more : Option (List Slot)) → after_slots done (option_map (λ ss. s ∷ ss) more) ≡ after_slots (done ++ s ∷ []) more
after_push done s None = refl
after_push done s (Some ss) = ap Some (sym (append_assoc done (s ∷ []) ss))

pub value_more : (done : List Slot) (d : Due) (ws : List Made) (i : ℕ) (x : Made) → i < length ws
    → after_slots done (value_slots d (map word (drop i ws))) ≡ after_slots (done ++ slot_at d (word (get_or ws i x)) ∷ []) (value_slots (due_after_word d (word (get_or ws i x))) (map word (drop (i + 1) ws)))
unfolding value_slots
value_more done d ws i x h = let e : drop i ws ≡ get_or ws i x ∷ drop (i + 1) ws = rw add-one (drop-cons ws i x h) in rw e (after_push done (slot_at d (word (get_or ws i x))) (value_slots (due_after_word d (word (get_or ws i x))) (map word (drop (i + 1) ws))))

pub value_end : (d : Due) (ws : List Made) (i : ℕ) → length ws ≤ i → value_slots d (map word (drop i ws)) ≡ (if is_whole d then Some [] else None)
unfolding value_slots
value_end d ws i h = rw (drop_of_length-le ws {i = i} h) refl

pub ends : (old done : List Slot) (b : Bool) (all rest : Option (List Slot)) → after_slots old all ≡ after_slots done rest → rest ≡ (if b then Some [] else None)
    → MatchBool b (after_slots old all ≡ Some done) (all ≡ None)
ends old done true all rest e f = e ∙ ap (after_slots done) f ∙ ap Some (append-nil done)
ends old done false None rest e f = refl
ends old done false (Some ss) rest e f = let g = e ∙ ap (after_slots done) f in absurd cc
