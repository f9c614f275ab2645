use Rattle.std.proofs.Common.{map, ap, ◌∙◌}
use Rattle.program_types.specs.View.{desc}
use Rattle.listing_slots.proofs.PartLaws.{proto_found, proto_last}
use Rattle.listing_slots.proofs.name_parts.NameParts.proto.Goals as goal

pub returns-in-Some-clause-same : goal.returns-in-Some-clause-same
returns-in-Some-clause-same c =
    let h = proto_found (λ p. p.now.ret) (λ p. p.now.params.now) desc _ _ c.args.one.now.ret c.args.one.now.params.now c.in-Some.number _ c.as_slice.ensures.keys c.in-Some.ensures.index in
    λ i. record { ret = h.0 i; params = h.1 i }

pub returns-clause-held : goal.returns-clause-held
returns-clause-held c =
    proto_last (λ p. p.now.ret) (λ p. p.now.params.now) desc _ _ _ c.args.one.now.ret c.args.one.now.params.now c.in_ok-insert.ensures.keys
    (ap (λ p. desc p.ret) c.in_ok-copy.ensures ∙ c.in_ok-ty.ensures.same)
    (ap (λ p. map desc p.params.now) c.in_ok-copy.ensures ∙ c.in_ok-types.ensures.same)
    c.in_default.ensures.found
