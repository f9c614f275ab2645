use Rattle.std.proofs.Common.{inr, refl, sym, subst, List, ℕ, ◌∷◌}
use Rattle.listing_words.specs.Names.{IsProtoText}
use Rattle.listing_words.proofs.NameLaws.{member_one, method_member}
use Rattle.listing_words.proofs.names.read_method.Goals as goal

pub returns-in_default-2-clause-none : goal.returns-in_default-2-clause-none
returns-in_default-2-clause-none c m h =
    let a = method_member c.args.units.now m h in
    let o = member_one 40 (inr refl) c.args.units.now _ _ _ m.class m.name a.0 c.in-Some.ensures.found a.1 in
    (rw c.in_default-2.is at c.in_ok-proto.ensures.none) m.proto (subst (λ (t : List ℕ). IsProtoText (40 ∷ t) m.proto) (sym o.2) a.2)
