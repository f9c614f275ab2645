use Rattle.listing_words.proofs.NameLaws.{units_one}
use Rattle.dex_names.proofs.spelled.ty.Goals as goal

pub returns-then-not-is_descriptor-clause-none : goal.returns-then-not-is_descriptor-clause-none
returns-then-not-is_descriptor-clause-none c d h =
    let spells = rw c.in-Some.is at c.in_ok-units.ensures.found in
    let e = units_one c.args.written.now d c.in-Some.units.now h.0.1 spells.1 in
    let k = c.is_descriptor.ensures.1 (rw e at h.1) in let l = c.if-not-is_descriptor.true in absurd cc
