use Rattle.std.proofs.Common.{◌≡◌, map, take}
use Rattle.std.specs.List.{flat_map}
use Rattle.tables_names.specs.Closure.{with_names}
use Rattle.file_needed.specs.inner.Bodies.{other_names}
use Rattle.program_types.specs.View as view
use Rattle.file_needed.proofs.classes.add_classes.Given as goal

abbrev pub invariant-loop-class : goal.invariant-loop-class
invariant-loop-class l = l.needed ≡ with_names l.fn.needed (flat_map other_names (map view.class (take l.class-index l.classes)))
