use Rattle.std.proofs.Common.{◌≡◌, ◌∷◌, ◌∙◌, ap, ℕ}
use Rattle.listing_slots.proofs.NumberNoneLaws.{unmarked_none, after_none}
use Rattle.listing_slots.proofs.numbers.read_number.Goals as goal

pub returns-in_default-clause-none : goal.returns-in_default-clause-none
returns-in_default-clause-none c = unmarked_none c.args.mark c.args.most c.args.text.now c.read_natural.result c.in_default.ensures.none c.read_natural.ensures.none

pub returns-clause-none : goal.returns-clause-none
returns-clause-none c =
    let e : c.args.text.now ≡ c.in-Some.before ∷ c.in_ok-first.digits.now = c.in_ok-first.ensures.cases.0 ∙ ap (λ (x : ℕ). x ∷ c.in_ok-first.digits.now) c.if-first-before.false in
    after_none c.args.mark c.args.most c.in-Some.before c.args.text.now c.in_ok-first.digits.now c.read_natural-2.result c.in-Some.ensures.some e c.read_natural-2.ensures.none
