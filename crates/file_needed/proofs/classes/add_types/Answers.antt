use Rattle.program_types.specs.Content.{OfDesc}
use Rattle.program_types.specs.View as view
use Rattle.file_needed.proofs.Steps.{names_more}
use Rattle.file_needed.proofs.classes.add_types.Goals as goal

pub loop-ty-preserved : goal.loop-ty-preserved
loop-ty-preserved c = names_more OfDesc view.desc _ _ _ c.args.types.now c.loop-ty.ty-index _ c.loop-ty-test.true c.loop-ty.invariant c.in_ok-add_type.ensures.added
