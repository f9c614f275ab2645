use Rattle.std.proofs.Common.{◌≡◌, List, ◌++◌, map, take}
use Rattle.std.specs.List.{flat_map}
use Rattle.program_types.specs.Content.{Name}
use Rattle.program_types.specs.View as view
use Rattle.tables_names.specs.Closure.{with_names}
use Rattle.tables_names.specs.Noted.{AreNoted}
use Rattle.tables_names.specs.Numbers.{sets}
use Rattle.file_needed.specs.inner.Bodies.{defined_in, own_names}
use Rattle.file_needed.proofs.classes.note_members.Given as goal

abbrev pub invariant-loop-class : goal.invariant-loop-class
invariant-loop-class l =
    record {
      added : sets l.noted.names ≡ with_names (sets l.fn.noted.names) (flat_map own_names (map view.class (take l.class-index l.classes)));
      noted : (before : List Name) → AreNoted l.fn.noted before → AreNoted l.noted (before ++ defined_in (map view.class (take l.class-index l.classes)));
    }
