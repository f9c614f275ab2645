use Rattle.listing_slots.proofs.PartLaws.{text_found, text_last}
use Rattle.listing_slots.proofs.name_parts.Texts.text.Goals as goal

pub returns-in-Some-clause-same : goal.returns-in-Some-clause-same
returns-in-Some-clause-same c = text_found (λ s. s.units.now) _ _ c.args.text.units.now c.in-Some.number _ c.as_slice.ensures.keys c.in-Some.ensures.index

pub returns-clause-held : goal.returns-clause-held
returns-clause-held c = text_last (λ s. s.units.now) _ _ _ c.args.text.units.now c.in_ok-insert.ensures.keys c.in_ok-try_alloc_slice_copy.ensures c.in_default.ensures.found
