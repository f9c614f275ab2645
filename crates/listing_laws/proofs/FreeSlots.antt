-- No target stands in the slots of a static field's line: both forms read its words alike.
use Rattle.std.proofs.Common.{◌≡◌, ℕ, Bool, true, false, if◌then◌else◌, List, [], ◌∷◌, Option, Some, None, refl, sym, subst, rules}
use Rattle.std.specs.Prelude.{zero, suc}
use Rattle.std.specs.List.{AllByRecursion}
use Rattle.listing_words.specs.Words.{Word, plain_word}
use Rattle.listing_slots.specs.declared.key.Key.{Key}
use Rattle.listing_slots.specs.declared.key.Key.TheVariants as key
use Rattle.listing_slots.specs.declared.kind.Kind.TheVariants as kind
use Rattle.listing_slots.specs.declared.slot.Slot.{Slot}
use Rattle.listing_slots.specs.declared.slot.Slot.TheVariants as slot
use Rattle.listing_slots.specs.Data.{Datum}
use Rattle.listing_slots.specs.Keys.{key_text, same, find_key, value_keys}
use Rattle.listing_slots.specs.Slots.{SpellsSlots}
use Rattle.listing_slots.specs.declared.due.Due.{Due}
use Rattle.listing_slots.specs.declared.due.Due.TheVariants as due
use Rattle.listing_slots.specs.Shapes.{Row, field_slots, given_row, slot_at, key_slot, due_after, due_of_key, due_after_close, due_after_key, due_after_word, is_whole, value_slots}
use Rattle.listing_lines.specs.Labels.{Label, SpellsAll, SpellsBy, is_target}
use Rattle.listing_laws.proofs.WordRuns.{whole_of, more_of}

-- no target stands in the slots
abbrev pub AreFree : List Slot → Type 0
AreFree ss = AllByRecursion (λ s. is_target s ≡ false) ss

-- none in the one that is due
abbrev IsFree : Due → Type 0
IsFree (due.Word s n) = is_target s ≡ false
IsFree _ = Unit {0}

-- ---- the slots of a value

key_is_free : (b : Bool) (o : Option Key) → is_target (if b then slot.Key key.Close else key_slot o) ≡ false
key_is_free true o = refl
key_is_free false None = refl
key_is_free false (Some k) = refl

slot_is_free : (d : Due) (w : Word) → IsFree d → is_target (slot_at d w) ≡ false
unfolding slot_at
slot_is_free (due.Word s n) w h = h
slot_is_free (due.Value n) (plain_word w) h = key_is_free (same (key_text key.Close) w) (find_key value_keys w)
slot_is_free _ w h = refl

free_after : (n : ℕ) → IsFree (due_after n)
free_after zero = tt
free_after (suc n) = tt

free_after_close : (n : ℕ) → IsFree (due_after_close n)
free_after_close zero = tt
free_after_close (suc n) = free_after n

free_of_key : (n : ℕ) (k : Key) → IsFree (due_of_key n k)
free_of_key n key.Array = refl
free_of_key n _ = search (rules, free_after)

free_after_key : (n : ℕ) (b : Bool) (o : Option Key) → IsFree (if b then due_after_close n else due_after_key n o)
free_after_key n true o = free_after_close n
free_after_key n false None = tt
free_after_key n false (Some k) = free_of_key n k

free_after_word : (d : Due) (w : Word) → IsFree (due_after_word d w)
unfolding due_after_word
free_after_word (due.Word s n) w = free_after n
free_after_word (due.Value n) (plain_word w) = free_after_key n (same (key_text key.Close) w) (find_key value_keys w)
free_after_word _ w = tt

values_are_free : (ws : List Word) (d : Due) (ss : List Slot) → IsFree d → value_slots d ws ≡ Some ss → AreFree ss
unfolding value_slots
values_are_free [] d ss h e = subst AreFree (sym (whole_of (is_whole d) ss e).1) tt
values_are_free (w ∷ ws) d ss h e =
    let m = more_of (slot_at d w) (value_slots (due_after_word d w) ws) ss e in
    subst AreFree (sym m.2) (slot_is_free d w h, values_are_free ws (due_after_word d w) m.0 (free_after_word d w) m.1)

pub value_is_free : (ws : List Word) (ss : List Slot) → value_slots (due.Value 0) ws ≡ Some ss → AreFree ss
value_is_free ws ss e = values_are_free ws (due.Value 0) ss tt e

-- those of the line of a static field, with or without a value
pub row_is_free : (row : Row) (few : Bool) (o : Option (List Slot)) → ((ss : List Slot) → o ≡ Some ss → AreFree ss) → Some row ≡ (if few then Some (kind.Static, field_slots) else given_row o) → AreFree row.1
row_is_free row true o f e = let k : (kind.Static, field_slots) ≡ row = cc in subst (λ (r : Row). AreFree r.1) k (refl, (refl, (refl, tt)))
row_is_free row false None f e = absurd cc
row_is_free row false (Some ss) f e =
    let k : (kind.Given, slot.Member ∷ slot.Desc ∷ slot.Flags ∷ slot.Key key.Equals ∷ ss) ≡ row = cc in
    subst (λ (r : Row). AreFree r.1) k (refl, (refl, (refl, (refl, f ss refl))))

-- ---- words say the same there in both forms

pub read_here : (ls : List Label) (ss : List Slot) (ws : List Word) (ds : List Datum) → AreFree ss → SpellsSlots ss ws ds → SpellsAll ls ss ws ds
read_here ls [] [] [] f h = tt
read_here ls (s ∷ ss) (w ∷ ws) (d ∷ ds) f h = (subst (λ b. SpellsBy b ls s w d) (sym f.0) h.0, read_here ls ss ws ds f.1 h.1)
read_here ls _ _ _ f h = absurd h

pub read_anywhere : (ls : List Label) (ss : List Slot) (ws : List Word) (ds : List Datum) → AreFree ss → SpellsAll ls ss ws ds → SpellsSlots ss ws ds
read_anywhere ls [] [] [] f h = tt
read_anywhere ls (s ∷ ss) (w ∷ ws) (d ∷ ds) f h = (subst (λ b. SpellsBy b ls s w d) f.0 h.0, read_anywhere ls ss ws ds f.1 h.1)
read_anywhere ls _ _ _ f h = absurd h
