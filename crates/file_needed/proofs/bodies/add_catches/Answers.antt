use Rattle.program_types.specs.Content.{Catch, OfDesc}
use Rattle.program_types.specs.View as view
use Rattle.file_needed.proofs.Steps.{names_more}
use Rattle.file_needed.proofs.bodies.add_catches.Goals as goal

pub loop-catch-preserved : goal.loop-catch-preserved
loop-catch-preserved c = names_more (λ (x : Catch). OfDesc x.ty) view.catch _ _ _ c.args.catches.now c.loop-catch.catch-index _ c.loop-catch-test.true c.loop-catch.invariant c.in_ok-add_type.ensures.added
