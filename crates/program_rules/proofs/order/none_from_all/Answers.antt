use Rattle.std.proofs.Common.{map, rules}
use Rattle.program_types.specs.View.{class, desc}
use Rattle.program_rules.specs.Rules.{NoneFrom}
use Rattle.program_rules.proofs.OrderLaws.{all-step}
use Rattle.program_rules.proofs.order.none_from_all.Goals as goal

pub loop-ty-preserved : goal.loop-ty-preserved
loop-ty-preserved c =
    all-step (NoneFrom (map class c.args.classes.now) c.args.from) desc _ c.args.types.now c.loop-ty.ty-index _ c.loop-ty-test.true c.loop-ty.invariant (c.none_from.ensures.0 (search rules))
