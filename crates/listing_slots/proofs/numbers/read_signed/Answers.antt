use Rattle.listing_slots.proofs.NumberReadLaws.{signed_minus_none, plain_none}
use Rattle.listing_slots.proofs.numbers.read_signed.Goals as goal

pub returns-in-Some-clause-none : goal.returns-in-Some-clause-none
returns-in-Some-clause-none c = signed_minus_none c.args.most c.args.text.now c.in-Some.digits.now c.read_minus.result c.in-Some.ensures.found c.read_minus.ensures.none

pub returns-in-None-read_natural-clause-none : goal.returns-in-None-read_natural-clause-none
returns-in-None-read_natural-clause-none c = plain_none c.args.most c.args.text.now c.in-None.ensures.none c.in-None-read_natural.ensures.none
