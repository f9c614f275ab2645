use Rattle.std.proofs.Common.{◌≡◌, ap, arith, rules, length, refl}
use Rattle.listing_words.proofs.NameLaws.{proto_none, proto_found}
use Rattle.listing_words.proofs.names.read_proto_tail.Goals as goal

pub returns-in_default-clause-none : goal.returns-in_default-clause-none
returns-in_default-clause-none c = proto_none _ _ _ c.in_ok-params.ensures.params c.in_ok-params.ensures.all (λ ret e d. let k = ap length e in omega (arith, c.in_default.ensures.cases))

pub returns-then-close-ne-CLOSE-clause-none : goal.returns-then-close-ne-CLOSE-clause-none
returns-then-close-ne-CLOSE-clause-none c = proto_none _ _ _ c.in_ok-params.ensures.params c.in_ok-params.ensures.all (λ ret e d. c.if-close-ne-CLOSE.true (let f = c.in-Some.ensures.cases.0 in cc))

pub returns-then-not-is_descriptor-clause-none : goal.returns-then-not-is_descriptor-clause-none
returns-then-not-is_descriptor-clause-none c = proto_none _ _ _ c.in_ok-params.ensures.params c.in_ok-params.ensures.all
    (λ ret e d. let f : ret ≡ c.in-Some.ret.now = (let g = c.in-Some.ensures.cases.0 in cc) in let k = c.is_descriptor.ensures.1 (rw (← f) d) in let l = c.if-not-is_descriptor.true in absurd cc)

pub returns-clause-found : goal.returns-clause-found
returns-clause-found c = proto_found _ _ _ c.in-Some.ret.now _ c.in_ok-params.ensures.params (let f = c.in-Some.ensures.cases.0 in let g = c.if-close-ne-CLOSE.false in cc) (c.if-not-is_descriptor.ensures.0 refl) (search rules)
