use Rattle.std.proofs.Common.{◌≡◌, map, take}
use Rattle.std.specs.List.{flat_map}
use Rattle.tables_names.specs.Closure.{with_names}
use Rattle.program_types.specs.Mentions.{names_of_try}
use Rattle.program_types.specs.View as view
use Rattle.file_needed.proofs.bodies.add_tries.Given as goal

abbrev pub invariant-loop-one : goal.invariant-loop-one
invariant-loop-one l = l.needed ≡ with_names l.fn.needed (flat_map names_of_try (map view.try (take l.one-index l.tries)))
