use Rattle.std.proofs.Common.{◌∙◌, sym, arith, rules}
use Rattle.listing_slots.proofs.FormLaws.{forms_lengths, forms_bad}
use Rattle.listing_slots.proofs.forms.have_forms.Goals as goal

pub returns-then-slots-words : goal.returns-then-slots-words
returns-then-slots-words c = forms_lengths _ _ c.if-slots-words.true

pub returns-then-not-has_form : goal.returns-then-not-has_form
returns-then-not-has_form c = forms_bad c.args.slots.now c.args.words.now c.loop-i.i _ _ (omega arith) (omega arith) (sym c.has_form.ensures ∙ search rules) ∙ sym c.loop-i.invariant
