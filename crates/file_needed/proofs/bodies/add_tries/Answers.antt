use Rattle.program_types.specs.Mentions.{names_of_try}
use Rattle.program_types.specs.View as view
use Rattle.file_needed.proofs.Steps.{flat_more}
use Rattle.file_needed.proofs.bodies.add_tries.Goals as goal

pub loop-one-preserved : goal.loop-one-preserved
loop-one-preserved c = flat_more names_of_try view.try _ _ _ c.args.tries.now c.loop-one.one-index _ c.loop-one-test.true c.loop-one.invariant c.in_ok-add_catches.ensures.added
