use Rattle.std.proofs.Common.{map, sym, ◌∙◌}
use Rattle.listing_words.specs.inner.View.{word}
use Rattle.listing_slots.proofs.ShapeLaws.{keyed_found, keyed_none, keyed_formless}
use Rattle.listing_slots.proofs.shape.read_keyed.Goals as goal

pub returns-in_default-clause-none : goal.returns-in_default-clause-none
returns-in_default-clause-none c = λ text row f. keyed_none text (map word c.args.after.now) c.args.key f (rw c.in_default.is at c.in_ok-kind.ensures.none) row

pub returns-then-have_forms-clause-found : goal.returns-then-have_forms-clause-found
returns-then-have_forms-clause-found c = λ text f.
    keyed_found text (map word c.args.after.now) c.args.key c.in-Some.kind c.args.slots.now.items c.push_key.new.slots.items c.requires f (rw c.in-Some.is at c.in_ok-kind.ensures.some)
    (sym c.if-have_forms.true ∙ rw c.as_slice.ensures.value at c.have_forms.ensures)

pub returns-clause-none : goal.returns-clause-none
returns-clause-none c = λ text row f.
    keyed_formless text (map word c.args.after.now) c.args.key c.in-Some.kind c.args.slots.now.items c.push_key.new.slots.items c.requires f (rw c.in-Some.is at c.in_ok-kind.ensures.some)
    (sym c.if-have_forms.false ∙ rw c.as_slice.ensures.value at c.have_forms.ensures) row
