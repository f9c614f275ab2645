use Rattle.listing_slots.proofs.OperandLaws.{encoded_reads, encoded_none, undecoded}
use Rattle.listing_slots.proofs.read.read_encoded.Goals as goal

pub returns-in-Some-clause-found : goal.returns-in-Some-clause-found
returns-in-Some-clause-found c = encoded_reads c.args.slot c.args.text.now c.in-Some.units.now c.read_named.result c.requires (rw c.in-Some.is at c.in_ok-units.ensures.found) c.read_named.ensures.found

pub returns-in-Some-clause-none : goal.returns-in-Some-clause-none
returns-in-Some-clause-none c = encoded_none c.args.slot c.args.text.now c.in-Some.units.now c.read_named.result c.requires (rw c.in-Some.is at c.in_ok-units.ensures.found) c.read_named.ensures.none

pub returns-in-None-clause-none : goal.returns-in-None-clause-none
returns-in-None-clause-none c = undecoded c.args.slot c.args.text.now c.requires (rw c.in-None.is at c.in_ok-units.ensures.none)
