use Rattle.std.proofs.Common.{map, sym, ap, ◌∙◌}
use Rattle.listing_words.specs.inner.View.{word}
use Rattle.listing_words.specs.Words.{plain_word}
use Rattle.listing_slots.proofs.ShapeLaws.{insn_found, insn_none, insn_formless, insn_empty, first_is, empty_is}
use Rattle.listing_slots.proofs.shape.read_labelled.Goals as goal

pub returns-in_default-clause-none : goal.returns-in_default-clause-none
returns-in_default-clause-none c = insn_empty (map word c.args.after.now) (empty_is c.args.after.now c.in_default.ensures.cases)

pub returns-in_default-2-clause-none : goal.returns-in_default-2-clause-none
returns-in_default-2-clause-none c =
    insn_none (map word c.args.after.now) (map word c.in-Some.operands.now) c.in-Plain.mnemonic.now (first_is c.args.after.now c.in-Some.operands.now c.in-Some.first.now (plain_word c.in-Plain.mnemonic.now) c.in-Some.ensures.cases.0 (ap word c.in-Plain.is))
    (rw c.in_default-2.is at c.in_ok-kind.ensures.none)

pub returns-then-have_forms-clause-found : goal.returns-then-have_forms-clause-found
returns-then-have_forms-clause-found c =
    let some = rw c.in-Some-2.is at c.in_ok-kind.ensures.some in
    insn_found (map word c.args.after.now) (map word c.in-Some.operands.now) c.in-Plain.mnemonic.now c.in-Some-2.kind some.0 c.args.slots.now.items c.push_insn.new.slots.items c.requires
    (first_is c.args.after.now c.in-Some.operands.now c.in-Some.first.now (plain_word c.in-Plain.mnemonic.now) c.in-Some.ensures.cases.0 (ap word c.in-Plain.is)) some.1 some.2
    (sym c.if-have_forms.true ∙ rw c.as_slice.ensures.value at c.have_forms.ensures)

pub returns-clause-none : goal.returns-clause-none
returns-clause-none c =
    let some = rw c.in-Some-2.is at c.in_ok-kind.ensures.some in
    insn_formless (map word c.args.after.now) (map word c.in-Some.operands.now) c.in-Plain.mnemonic.now c.in-Some-2.kind some.0 c.args.slots.now.items c.push_insn.new.slots.items c.requires
    (first_is c.args.after.now c.in-Some.operands.now c.in-Some.first.now (plain_word c.in-Plain.mnemonic.now) c.in-Some.ensures.cases.0 (ap word c.in-Plain.is)) some.1 some.2
    (sym c.if-have_forms.false ∙ rw c.as_slice.ensures.value at c.have_forms.ensures)
