use Rattle.std.proofs.Common.{◌≡◌, ◌<◌, ◌^◌, map, take}
use Rattle.std.specs.Prelude.{sum}
use Rattle.program_types.specs.Mentions.{field_of_class}
use Rattle.file_renumber.specs.inner.Marked.{AddsNames, HasMarks}
use Rattle.file_classes.specs.ClassData.{steps}
use Rattle.file_classes.specs.inner.Reading.{field_entry}
use Rattle.file_strip.specs.inner.Survey.{HasFields}
use Rattle.file_strip.proofs.members.mark_fields.Given as goal

abbrev pub invariant-loop-entry : goal.invariant-loop-entry
invariant-loop-entry l = record {
  summed : l.index ≡ sum (take l.entry-index (steps (map field_entry l.entries)));
  small : l.index < 2 ^ 32;
  marks : HasMarks l.sections l.marks;
  marked : (x : HasFields l.sections l.entries) → AddsNames l.sections l.fn.marks l.marks (map (field_of_class x.class) (take l.entry-index x.fields));
}
