use Rattle.listing_slots.proofs.read.read_named.Goals as goal

pub returns-in_default-2-clause-none : goal.returns-in_default-2-clause-none
returns-in_default-2-clause-none c = let none = rw c.in_default-2.is at c.in_ok-method-in-Method.ensures.none in rw c.in-Method.is (λ d s. none s.0 s.1)
