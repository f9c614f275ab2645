use Rattle.std.proofs.Common.{map, sym, ap, ◌∙◌, true, false, ◌≡◌, inr}
use Rattle.listing_words.specs.inner.View.{word}
use Rattle.listing_words.specs.Words.{plain_word}
use Rattle.listing_slots.proofs.ShapeLaws.{labelled_shape, labelled_only, keyed_line, keyed_only, made_all, made_none, no_words, first_is, empty_is, keyed_lengths, insn_lengths, leadless}
use Rattle.listing_slots.proofs.shape.read_shape.Goals as goal

pub returns-in_default-clause-none : goal.returns-in_default-clause-none
returns-in_default-clause-none c = no_words (map word c.args.words.now) (empty_is c.args.words.now c.in_default.ensures.cases)

-- ---- after no label

pub returns-in_default-lead_key-clause-none : goal.returns-in_default-lead_key-clause-none
returns-in_default-lead_key-clause-none c =
    keyed_only (map word c.args.words.now) (map word c.in-Some.after.now) c.in-Plain.text.now (first_is c.args.words.now c.in-Some.after.now c.in-Some.first.now (plain_word c.in-Plain.text.now) c.in-Some.ensures.cases.0 (ap word c.in-Plain.is))
    c.in_default-label_of.ensures.none (leadless c.in-Plain.text.now (map word c.in-Some.after.now) (sym c.in_default-lead_key.is ∙ c.lead_key.ensures))

pub returns-in_default-label_of-clause-found : goal.returns-in_default-label_of-clause-found
returns-in_default-label_of-clause-found c = made_all _ _ _ _ _ c.found.ensures c.in_ok-read_keyed.ensures.found (λ kind b.
    inr (keyed_line (map word c.args.words.now) (map word c.in-Some.after.now) c.in-Plain.text.now (kind, c.read_keyed.new.slots.items) (first_is c.args.words.now c.in-Some.after.now c.in-Some.first.now (plain_word c.in-Plain.text.now) c.in-Some.ensures.cases.0 (ap word c.in-Plain.is)) (b c.in-Plain.text.now (sym c.in-Some-lead_key.is ∙ c.lead_key.ensures))))

pub returns-in_default-label_of-clause-none : goal.returns-in_default-label_of-clause-none
returns-in_default-label_of-clause-none c = made_none _ _ _ _ _ c.found.ensures c.in_ok-read_keyed.ensures.none (λ refuse.
    keyed_only (map word c.args.words.now) (map word c.in-Some.after.now) c.in-Plain.text.now (first_is c.args.words.now c.in-Some.after.now c.in-Some.first.now (plain_word c.in-Plain.text.now) c.in-Some.ensures.cases.0 (ap word c.in-Plain.is)) c.in_default-label_of.ensures.none (λ row. refuse c.in-Plain.text.now row (sym c.in-Some-lead_key.is ∙ c.lead_key.ensures)))

pub returns-in_default-label_of-clause-lengths : goal.returns-in_default-label_of-clause-lengths
returns-in_default-label_of-clause-lengths c = made_all _ _ _ _ _ c.found.ensures c.in_ok-read_keyed.ensures.found (λ kind b.
    keyed_lengths c.in-Plain.text.now c.args.words.now c.in-Some.after.now c.in-Some.first.now kind c.read_keyed.new.slots.items c.in-Some.ensures.cases.0 (b c.in-Plain.text.now (sym c.in-Some-lead_key.is ∙ c.lead_key.ensures)))

-- ---- after one

pub returns-then-not-is_natural-clause-none : goal.returns-then-not-is_natural-clause-none
returns-then-not-is_natural-clause-none c =
    labelled_only (map word c.args.words.now) (map word c.in-Some.after.now) c.in-Plain.text.now c.in-Some-label_of.label.now (first_is c.args.words.now c.in-Some.after.now c.in-Some.first.now (plain_word c.in-Plain.text.now) c.in-Some.ensures.cases.0 (ap word c.in-Plain.is))
    c.in-Some-label_of.ensures.found (λ n row b. let e = c.is_natural.ensures in let f = c.if-not-is_natural.true in let g : false ≡ true = cc in cc)

pub returns-clause-found : goal.returns-clause-found
returns-clause-found c = made_all _ _ _ _ _ c.found-2.ensures c.in_ok-read_labelled.ensures.found (λ kind b.
    labelled_shape (map word c.args.words.now) (map word c.in-Some.after.now) c.in-Plain.text.now c.in-Some-label_of.label.now (kind, c.read_labelled.new.slots.items) (first_is c.args.words.now c.in-Some.after.now c.in-Some.first.now (plain_word c.in-Plain.text.now) c.in-Some.ensures.cases.0 (ap word c.in-Plain.is))
    c.in-Some-label_of.ensures.found (sym c.is_natural.ensures ∙ c.if-not-is_natural.false) b)

pub returns-clause-none : goal.returns-clause-none
returns-clause-none c = made_none _ _ _ _ _ c.found-2.ensures c.in_ok-read_labelled.ensures.none (λ refuse.
    labelled_only (map word c.args.words.now) (map word c.in-Some.after.now) c.in-Plain.text.now c.in-Some-label_of.label.now (first_is c.args.words.now c.in-Some.after.now c.in-Some.first.now (plain_word c.in-Plain.text.now) c.in-Some.ensures.cases.0 (ap word c.in-Plain.is)) c.in-Some-label_of.ensures.found (λ n. refuse))

pub returns-clause-lengths : goal.returns-clause-lengths
returns-clause-lengths c = made_all _ _ _ _ _ c.found-2.ensures c.in_ok-read_labelled.ensures.found (λ kind b.
    insn_lengths c.args.words.now c.in-Some.after.now c.in-Some.first.now kind c.read_labelled.new.slots.items c.in-Some.ensures.cases.0 b)
