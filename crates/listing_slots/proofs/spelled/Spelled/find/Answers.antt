use Rattle.std.proofs.Common.{◌∙◌, sym, ap, subst, arith, List, ℕ}
use Rattle.listing_words.specs.Words.{plain_word}
use Rattle.listing_slots.specs.declared.slot.Slot.{Slot}
use Rattle.listing_slots.specs.Slots.{SpellsSlot}
use Rattle.listing_slots.specs.inner.Spelled.{IsSpelled, IsValid}
use Rattle.listing_slots.specs.inner.ValidNames.{Spellings}
use Rattle.listing_slots.specs.inner.View.{datum}
use Rattle.listing_slots.proofs.KeyLaws.{same_true}
use Rattle.listing_slots.proofs.spelled.Spelled.find.Goals as goal

pub returns-then-is_same-clause-word_value : goal.returns-then-is_same-clause-word_value
returns-then-is_same-clause-word_value c =
    let one = c.in_ok-one.one in
    let kept = subst IsSpelled (sym c.index.ensures ∙ c.in_ok-one.was) (c.self.invariant.spelled c.args.at c.index.result.now (omega (arith, c.len.ensures, c.if-at-len.false))) in
    subst (λ (slot : Slot). SpellsSlot slot (plain_word c.args.text.now) (datum one.name)) (c.is_same_slot.ensures c.if-is_same_slot.true)
    (subst (λ (text : List ℕ). SpellsSlot one.slot (plain_word text) (datum one.name)) (same_true one.text.now c.args.text.now (sym c.is_same.ensures ∙ c.if-is_same.true)) kept)

pub returns-then-is_same-clause-valid : goal.returns-then-is_same-clause-valid
returns-then-is_same-clause-valid c = λ valid. subst IsValid (sym c.index.ensures ∙ c.in_ok-one.was) (c.self.invariant.valid_names (ap (λ (k : Spellings). k.valid) c.self.view_is ∙ valid) c.args.at c.index.result.now (omega (arith, c.len.ensures, c.if-at-len.false)))
