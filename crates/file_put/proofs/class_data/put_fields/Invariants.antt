use Rattle.std.proofs.Common.{map, take}
use Rattle.program_types.specs.Content.{Descriptor}
use Rattle.program_types.specs.Mentions.{field_of_class}
use Rattle.program_types.specs.View as view
use Rattle.tables_names.specs.Noted.{AreRanks}
use Rattle.file_put.proofs.MemberRuns.{FieldsTo}
use Rattle.file_put.proofs.class_data.put_fields.Given as goal

abbrev pub invariant-loop-i : goal.invariant-loop-i
invariant-loop-i l =
    (owner : Descriptor) → AreRanks l.ranks (map (field_of_class owner) (map view.member l.members)) l.own → FieldsTo l.ranks owner l.fn.out.items l.out.items (map view.member (take l.i l.members)) l.last
