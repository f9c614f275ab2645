use Rattle.std.proofs.Common.{arith, ap, length}
use Rattle.listing_words.proofs.TextLaws.{units_none}
use Rattle.listing_words.proofs.texts.read_units.Goals as goal

pub returns-in_default-clause-none : goal.returns-in_default-clause-none
returns-in_default-clause-none c = units_none c.args.text.now _ _ c.in_ok-units.ensures.run c.in_ok-units.ensures.all (λ rest e. let k = ap length e in omega (arith, c.in_default.ensures.cases))

pub returns-then-first-ne34-clause-none : goal.returns-then-first-ne34-clause-none
returns-then-first-ne34-clause-none c = units_none c.args.text.now _ _ c.in_ok-units.ensures.run c.in_ok-units.ensures.all (λ rest e. let f = c.in-Some.ensures.cases in c.if-first-ne34.true (cc))
