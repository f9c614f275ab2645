use Rattle.std.proofs.Common.{◌≡◌, map, take}
use Rattle.tables_names.specs.Closure.{with_names}
use Rattle.program_types.specs.Content.{OfDesc}
use Rattle.program_types.specs.View as view
use Rattle.file_needed.proofs.classes.add_types.Given as goal

abbrev pub invariant-loop-ty : goal.invariant-loop-ty
invariant-loop-ty l = l.needed ≡ with_names l.fn.needed (map OfDesc (map view.desc (take l.ty-index l.types)))
