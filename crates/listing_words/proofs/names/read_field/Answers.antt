use Rattle.listing_words.proofs.NameLaws.{member_one, field_member}
use Rattle.std.proofs.Common.{inl, refl}
use Rattle.listing_words.proofs.names.read_field.Goals as goal

pub returns-then-not-is_descriptor-clause-none : goal.returns-then-not-is_descriptor-clause-none
returns-then-not-is_descriptor-clause-none c f h =
    let o = member_one 58 (inl refl) c.args.units.now _ _ _ f.class f.name f.ty c.in_ok-class.ensures.found (field_member c.args.units.now f h) in
    let k = c.is_descriptor.ensures.1 (rw o.2 h.ty) in let l = c.if-not-is_descriptor.true in absurd cc
