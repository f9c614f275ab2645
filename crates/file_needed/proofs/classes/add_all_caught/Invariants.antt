use Rattle.std.proofs.Common.{◌≡◌, map, take}
use Rattle.std.specs.List.{flat_map}
use Rattle.tables_names.specs.Closure.{with_names}
use Rattle.file_needed.specs.inner.Bodies.{caught_in_body}
use Rattle.program_types.specs.View as view
use Rattle.file_needed.proofs.classes.add_all_caught.Given as goal

abbrev pub invariant-loop-method : goal.invariant-loop-method
invariant-loop-method l = l.needed ≡ with_names l.fn.needed (flat_map caught_in_body (map view.method (take l.method-index l.methods)))
