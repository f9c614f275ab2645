use Rattle.std.proofs.lemmas.Bool.{eqb-true, eq-eqb}
use Rattle.dex_base.specs.Descriptor.{IsClass}
use Rattle.dex_base.proofs.NameUnits.{class_prefix_free}
use Rattle.dex_base.proofs.DescriptorLaws.{front_is_all, front_not_all}
use Rattle.dex_base.proofs.descriptor.is_class.Goals as goal

pub returns-in-Some : goal.returns-in-Some
returns-in-Some c =
    let all = front_is_all IsClass c.args.units.now _ class_prefix_free c.in-Some.ensures.found.1 in
    (λ h. all.0 (eqb-true _ _ h), λ h. eq-eqb _ _ (all.1 h c.in-Some.ensures.found.0))

pub returns-in-None : goal.returns-in-None
returns-in-None c = (λ h. absurd cc, λ h. absurd (front_not_all IsClass c.args.units.now c.in-None.ensures.none h))
