use Rattle.std.proofs.Common.{map, take}
use Rattle.std.specs.List.{flat_map}
use Rattle.program_types.specs.View as view
use Rattle.tables_names.specs.Noted.{AddsNoted}
use Rattle.file_needed.specs.inner.Bodies.{named_in_class}
use Rattle.file_needed.proofs.classes.note_classes.Given as goal

abbrev pub invariant-loop-class : goal.invariant-loop-class
invariant-loop-class l = AddsNoted l.fn.noted l.noted (flat_map named_in_class (map view.class (take l.class-index l.classes)))
