use Rattle.std.proofs.Common.{◌≡◌, map, take}
use Rattle.tables_names.specs.Closure.{with_names}
use Rattle.program_types.specs.Content.{Catch, OfDesc}
use Rattle.program_types.specs.View as view
use Rattle.file_needed.proofs.bodies.add_catches.Given as goal

abbrev pub invariant-loop-catch : goal.invariant-loop-catch
invariant-loop-catch l = l.needed ≡ with_names l.fn.needed (map (λ (x : Catch). OfDesc x.ty) (map view.catch (take l.catch-index l.catches)))
