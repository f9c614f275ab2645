use Rattle.std.proofs.Common.{◌≡◌, ◌<◌, ◌^◌, map, take}
use Rattle.std.specs.List.{flat_map}
use Rattle.std.specs.Prelude.{sum}
use Rattle.program_types.specs.Mentions.{names_of_method}
use Rattle.file_layout.specs.Sections.{wide_all}
use Rattle.file_limits.specs.inner.Sum.{IsSum}
use Rattle.file_limits.specs.Wide.{bodies_in, wide_body}
use Rattle.file_classes.specs.ClassData.{steps}
use Rattle.file_classes.specs.inner.Reading.{method_entry}
use Rattle.file_strip.specs.inner.Survey.{FindsNames, HasFound, HasMethods}
use Rattle.file_strip.proofs.members.visit_methods.Given as goal

abbrev pub invariant-loop-entry : goal.invariant-loop-entry
invariant-loop-entry l = record {
  summed : l.index ≡ sum (take l.entry-index (steps (map method_entry l.entries)));
  small : l.index < 2 ^ 32;
  known : HasFound l.sections l.found;
  found : (x : HasMethods l.sections l.entries) → FindsNames l.sections l.fn.found l.found (flat_map (names_of_method x.class) (take l.entry-index x.methods));
  wide : (x : HasMethods l.sections l.entries) → IsSum l.sum (wide_all wide_body (bodies_in (take l.entry-index x.methods)));
}
