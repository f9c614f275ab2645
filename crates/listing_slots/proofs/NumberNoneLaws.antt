-- Words that are no number after a mark.
use Rattle.std.proofs.Common.{◌≡◌, ℕ, ◌≤◌, List, [], ◌∷◌, sym, subst}
use Rattle.std.specs.Prelude.{Option, Some, None, IfNone}
use Rattle.listing_words.specs.Words.{plain_word}
use Rattle.listing_words.specs.Numbers.{SpellsNatural}
use Rattle.listing_slots.specs.declared.slot.Mark.{Mark}
use Rattle.listing_slots.specs.Slots.{mark_text, SpellsNumber}
use Rattle.listing_slots.proofs.NumberReadLaws.{marked_none}

pub unmarked_none : (m : Mark) (most : ℕ) (text : List ℕ) (r : Option ℕ) → mark_text m ≡ [] → IfNone r ((n : ℕ) → SpellsNatural text n → n ≤ most → ⊥) → IfNone r ((n : ℕ) → SpellsNumber m most (plain_word text) n → ⊥)
unmarked_none m most text None e h = marked_none m most [] text e (λ ds n f s k. h n (subst (λ (t : List ℕ). SpellsNatural t n) (sym f) s) k)
unmarked_none m most text (Some x) e h = tt

pub after_none : (m : Mark) (most before : ℕ) (text digits : List ℕ) (r : Option ℕ) → mark_text m ≡ before ∷ [] → text ≡ before ∷ digits → IfNone r ((n : ℕ) → SpellsNatural digits n → n ≤ most → ⊥) → IfNone r ((n : ℕ) → SpellsNumber m most (plain_word text) n → ⊥)
after_none m most before text digits None e i h = marked_none m most (before ∷ []) text e (λ ds n f s k. let g : ds ≡ digits = cc in h n (subst (λ (t : List ℕ). SpellsNatural t n) g s) k)
after_none m most before text digits (Some x) e i h = tt
