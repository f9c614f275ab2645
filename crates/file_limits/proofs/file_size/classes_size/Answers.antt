use Rattle.program_types.specs.View as view
use Rattle.file_limits.specs.Wide.{wide_class}
use Rattle.file_limits.proofs.SumLaws.{room_more}
use Rattle.file_limits.proofs.file_size.classes_size.Goals as goal

pub loop-class-preserved : goal.loop-class-preserved
loop-class-preserved c = room_more wide_class view.class _ _ _ c.args.classes.now c.loop-class.class-index _ c.loop-class-test.true c.plus-sum.ensures c.loop-class.invariant c.class_size.ensures
