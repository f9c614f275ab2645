use Rattle.tables_names.specs.Closure.{HasShorty}
use Rattle.program_types.specs.Mentions.{names_of_class}
use Rattle.program_types.specs.View as view
use Rattle.file_needed.specs.inner.Bodies.{other_names}
use Rattle.file_needed.proofs.Steps.{flat_more, flat_kept}
use Rattle.file_needed.proofs.classes.add_classes.Goals as goal

pub add_class-requires : goal.add_class-requires
add_class-requires c = flat_kept HasShorty names_of_class view.class c.args.classes.now c.loop-class.class-index _ c.loop-class-test.true c.requires

pub loop-class-preserved : goal.loop-class-preserved
loop-class-preserved c = flat_more other_names view.class _ _ _ c.args.classes.now c.loop-class.class-index _ c.loop-class-test.true c.loop-class.invariant c.in_ok-add_class.ensures.added
