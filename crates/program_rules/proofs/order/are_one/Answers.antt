use Rattle.std.proofs.Common.{◌∙◌, ap, sym, Some}
use Rattle.program_rules.proofs.order.are_one.Goals as goal
use Rattle.dex_base.proofs.ListFacts.{some_inj, map_at}
use Rattle.program_types.specs.View.{desc}

pub returns : goal.returns
returns c =
    let e = map_at desc c.args.types.now c.args.j _ c.requires.first in
    let f = map_at desc c.args.types.now c.args.k _ c.requires.second in (
      λ t. e ∙ ap Some (c.desc_eq.ensures.0 t) ∙ sym f,
      λ h. c.desc_eq.ensures.1 (some_inj _ _ (sym e ∙ h ∙ f)),
    )
