use Rattle.std.proofs.Common.{◌≡◌, ℕ, suc, zero, ◌<◌, List, [], ◌∷◌, map, take, length, get_or, arith, refl, ◌+◌}
use Rattle.std.specs.List.{AllByRecursion}
use Rattle.std.proofs.lemmas.List.{take_all}
use Rattle.std.proofs.lemmas.List.Elements.{All-from_recursion}
use Rattle.dex_base.specs.Descriptor.{IsDescriptor}
use Rattle.program_types.specs.View.{desc}
use Rattle.program_types.specs.declared.names.Desc.{Desc}
use Rattle.bench.proofs.needed.has_shorty.Goals as goal

-- one more is
descriptors_more : (xs : List Desc) (i : ℕ) (d : Desc) → i < length xs → AllByRecursion IsDescriptor (map desc (take i xs)) → IsDescriptor (desc (get_or xs i d)) → AllByRecursion IsDescriptor (map desc (take (suc i) xs))
descriptors_more [] i d lt all is = absurd (omega arith)
descriptors_more (x ∷ xs) zero d lt all is = (is, tt)
descriptors_more (x ∷ xs) (suc i) d lt all is = (all.0, descriptors_more xs i d (omega arith) all.1 is)

pub loop-param-preserved : goal.loop-param-preserved
loop-param-preserved c =
    let i = c.loop-param.param-index in
    let next : suc i ≡ i + 1 = omega arith in
    rw (← next) (descriptors_more c.args.proto.now.params.now i _ c.loop-param-test.true c.loop-param.invariant (c.if-not-is_descriptor.ensures.0 refl))

pub returns-clause-params : goal.returns-clause-params
returns-clause-params c =
    let params = c.args.proto.now.params.now in
    let full : take c.loop-param.param-index params ≡ params = take_all _ params (omega arith) in
    λ _. All-from_recursion IsDescriptor (map desc params) (rw full at c.loop-param.invariant)
