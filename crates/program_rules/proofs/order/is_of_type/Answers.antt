use Rattle.std.proofs.Common.{◌∙◌, ap, sym, Some}
use Rattle.program_rules.proofs.OrderLaws.{type-at}
use Rattle.program_rules.proofs.order.is_of_type.Goals as goal
use Rattle.dex_base.proofs.ListFacts.{some_inj}

pub returns : goal.returns
returns c =
    let e = type-at c.args.classes.now c.args.j _ c.requires.inside in (
      λ t. e ∙ ap Some (c.desc_eq.ensures.0 t),
      λ h. c.desc_eq.ensures.1 (some_inj _ _ (sym e ∙ h)),
    )
