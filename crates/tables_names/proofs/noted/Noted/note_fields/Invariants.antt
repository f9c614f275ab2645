use Rattle.std.proofs.Common.{map, take}
use Rattle.program_types.specs.Mentions.{field_of_class}
use Rattle.program_types.specs.View as view
use Rattle.tables_names.specs.Noted.{AddsNoted, Continues}
use Rattle.tables_names.proofs.noted.Noted.note_fields.Given as goal

-- the fields so far
abbrev pub invariant-loop-field : goal.invariant-loop-field
invariant-loop-field l =
    record {
      added : AddsNoted l.fn.self l.self (map (field_of_class (view.desc l.class)) (map view.member (take l.field-index l.fields)));
      continues : Continues l.fn.self l.self;
    }
