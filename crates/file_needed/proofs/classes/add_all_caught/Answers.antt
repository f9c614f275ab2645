use Rattle.file_needed.specs.inner.Bodies.{caught_in_body}
use Rattle.program_types.specs.View as view
use Rattle.file_needed.proofs.Steps.{flat_more}
use Rattle.file_needed.proofs.classes.add_all_caught.Goals as goal

pub loop-method-preserved : goal.loop-method-preserved
loop-method-preserved c = flat_more caught_in_body view.method _ _ _ c.args.methods.now c.loop-method.method-index _ c.loop-method-test.true c.loop-method.invariant c.in_ok-add_caught.ensures.added
