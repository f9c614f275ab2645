use Rattle.std.proofs.Common.{map, take}
use Rattle.tables_names.specs.Closure.{method_of_class}
use Rattle.program_types.specs.View as view
use Rattle.tables_names.specs.Noted.{AddsNoted, Continues}
use Rattle.tables_names.proofs.noted.Noted.note_methods.Given as goal

-- the methods so far
abbrev pub invariant-loop-one : goal.invariant-loop-one
invariant-loop-one l =
    record {
      added : AddsNoted l.fn.self l.self (map (method_of_class (view.desc l.class)) (map view.method (take l.one-index l.methods)));
      continues : Continues l.fn.self l.self;
    }
