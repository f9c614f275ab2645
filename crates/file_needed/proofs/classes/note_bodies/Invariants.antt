use Rattle.std.proofs.Common.{map, take}
use Rattle.std.specs.List.{flat_map}
use Rattle.program_types.specs.View as view
use Rattle.tables_names.specs.Noted.{AddsNoted}
use Rattle.file_needed.specs.inner.Bodies.{named_in_body}
use Rattle.file_needed.proofs.classes.note_bodies.Given as goal

abbrev pub invariant-loop-method : goal.invariant-loop-method
invariant-loop-method l = AddsNoted l.fn.noted l.noted (flat_map named_in_body (map view.method (take l.method-index l.methods)))
