use Rattle.std.proofs.Common.{◌≡◌, ◌<◌, ◌^◌, map, take}
use Rattle.std.specs.Prelude.{sum}
use Rattle.program_types.specs.View.{desc, member}
use Rattle.file_classes.specs.Classes.{IsField}
use Rattle.file_classes.specs.ClassData.{steps, FirstEntriesAre}
use Rattle.file_classes.specs.inner.Reading.{field_entry}
use Rattle.file_classes.proofs.members.read_fields.Given as goal

abbrev pub invariant-loop-entry : goal.invariant-loop-entry
invariant-loop-entry l = record {
  runs : FirstEntriesAre (IsField l.sections (desc l.owner.class)) (map field_entry l.entries) l.entry-index (map member l.fields.items);
  summed : l.index ≡ sum (take l.entry-index (steps (map field_entry l.entries)));
  small : l.index < 2 ^ 32;
}
