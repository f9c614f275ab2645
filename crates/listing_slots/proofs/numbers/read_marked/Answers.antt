use Rattle.listing_slots.proofs.numbers.read_marked.Goals as goal

pub returns-in-Plain-clause-none : goal.returns-in-Plain-clause-none
returns-in-Plain-clause-none c = rw c.in-Plain.is c.read_number.ensures.none
