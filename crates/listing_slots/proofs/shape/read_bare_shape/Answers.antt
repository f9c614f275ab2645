use Rattle.std.proofs.Common.{map, sym, ap, ◌∙◌, inr}
use Rattle.listing_words.specs.inner.View.{word}
use Rattle.listing_words.specs.Words.{plain_word}
use Rattle.listing_slots.proofs.ShapeLaws.{bare_none, bare_only, bare_keyed_only, bare_shape, bare_lengths, keyed_lengths, keyed_line, made_all, made_none, first_is, empty_is}
use Rattle.listing_slots.proofs.shape.read_bare_shape.Goals as goal

pub returns-in_default-clause-none : goal.returns-in_default-clause-none
returns-in_default-clause-none c = bare_none (map word c.args.words.now) (empty_is c.args.words.now c.in_default.ensures.cases)

-- ---- after a keyword

pub returns-in_ok-read_keyed-in-Some-lead_key-clause-found : goal.returns-in_ok-read_keyed-in-Some-lead_key-clause-found
returns-in_ok-read_keyed-in-Some-lead_key-clause-found c = made_all _ _ _ _ _ c.found.ensures c.in_ok-read_keyed-in-Some-lead_key.ensures.found (λ kind b.
    inr (keyed_line (map word c.args.words.now) (map word c.in-Some.after.now) c.in-Plain.text.now (kind, c.read_keyed.new.slots.items) (first_is c.args.words.now c.in-Some.after.now c.in-Some.first.now (plain_word c.in-Plain.text.now) c.in-Some.ensures.cases.0 (ap word c.in-Plain.is)) (b c.in-Plain.text.now (sym c.in-Some-lead_key.is ∙ c.lead_key.ensures))))

pub returns-in_ok-read_keyed-in-Some-lead_key-clause-none : goal.returns-in_ok-read_keyed-in-Some-lead_key-clause-none
returns-in_ok-read_keyed-in-Some-lead_key-clause-none c = made_none _ _ _ _ _ c.found.ensures c.in_ok-read_keyed-in-Some-lead_key.ensures.none (λ refuse.
    bare_keyed_only (map word c.args.words.now) (map word c.in-Some.after.now) c.in-Plain.text.now c.in-Some-lead_key.key (first_is c.args.words.now c.in-Some.after.now c.in-Some.first.now (plain_word c.in-Plain.text.now) c.in-Some.ensures.cases.0 (ap word c.in-Plain.is))
    (sym c.in-Some-lead_key.is ∙ c.lead_key.ensures) (λ row. refuse c.in-Plain.text.now row (sym c.in-Some-lead_key.is ∙ c.lead_key.ensures)))

pub returns-in_ok-read_keyed-in-Some-lead_key-clause-lengths : goal.returns-in_ok-read_keyed-in-Some-lead_key-clause-lengths
returns-in_ok-read_keyed-in-Some-lead_key-clause-lengths c = made_all _ _ _ _ _ c.found.ensures c.in_ok-read_keyed-in-Some-lead_key.ensures.found (λ kind b.
    keyed_lengths c.in-Plain.text.now c.args.words.now c.in-Some.after.now c.in-Some.first.now kind c.read_keyed.new.slots.items c.in-Some.ensures.cases.0 (b c.in-Plain.text.now (sym c.in-Some-lead_key.is ∙ c.lead_key.ensures)))

-- ---- after any other word

pub returns-in_ok-read_labelled-in-None-clause-found : goal.returns-in_ok-read_labelled-in-None-clause-found
returns-in_ok-read_labelled-in-None-clause-found c = made_all _ _ _ _ _ c.found-in-None.ensures c.in_ok-read_labelled-in-None.ensures.found (λ kind b.
    bare_shape (map word c.args.words.now) (map word c.in-Some.after.now) c.in-Plain.text.now (kind, c.read_labelled.new.slots.items) (first_is c.args.words.now c.in-Some.after.now c.in-Some.first.now (plain_word c.in-Plain.text.now) c.in-Some.ensures.cases.0 (ap word c.in-Plain.is)) (sym c.in-None.is ∙ c.lead_key.ensures) b)

pub returns-in_ok-read_labelled-in-None-clause-none : goal.returns-in_ok-read_labelled-in-None-clause-none
returns-in_ok-read_labelled-in-None-clause-none c = made_none _ _ _ _ _ c.found-in-None.ensures c.in_ok-read_labelled-in-None.ensures.none (λ refuse.
    bare_only (map word c.args.words.now) (map word c.in-Some.after.now) c.in-Plain.text.now (first_is c.args.words.now c.in-Some.after.now c.in-Some.first.now (plain_word c.in-Plain.text.now) c.in-Some.ensures.cases.0 (ap word c.in-Plain.is)) (sym c.in-None.is ∙ c.lead_key.ensures) refuse)

pub returns-in_ok-read_labelled-in-None-clause-lengths : goal.returns-in_ok-read_labelled-in-None-clause-lengths
returns-in_ok-read_labelled-in-None-clause-lengths c = made_all _ _ _ _ _ c.found-in-None.ensures c.in_ok-read_labelled-in-None.ensures.found (λ kind b.
    bare_lengths c.args.words.now kind c.read_labelled.new.slots.items b)
