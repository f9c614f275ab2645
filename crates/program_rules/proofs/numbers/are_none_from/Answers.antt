use Rattle.std.proofs.Common.{rules}
use Rattle.program_types.specs.View.{desc}
use Rattle.program_rules.specs.Rules.{NoneFrom}
use Rattle.program_rules.proofs.OrderLaws.{all-step}
use Rattle.program_rules.proofs.numbers.are_none_from.Goals as goal

pub loop-ty-preserved : goal.loop-ty-preserved
loop-ty-preserved c = λ p h. all-step (NoneFrom p c.args.from) desc _ c.args.list.now c.loop-ty.ty-index _ c.loop-ty-test.true (c.loop-ty.invariant p h) ((c.is_none_from.ensures p h).0 (search rules))
