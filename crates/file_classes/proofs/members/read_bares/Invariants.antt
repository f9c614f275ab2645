use Rattle.std.proofs.Common.{◌≡◌, ◌<◌, ◌^◌, map, take}
use Rattle.std.specs.Prelude.{sum}
use Rattle.program_types.specs.View.{desc}
use Rattle.file_classes.specs.inner.Reading.{IsBare, method_entry}
use Rattle.file_classes.specs.ClassData.{steps, FirstEntriesAre}
use Rattle.file_classes.proofs.members.read_bares.Given as goal

abbrev pub invariant-loop-entry : goal.invariant-loop-entry
invariant-loop-entry l = record {
  runs : FirstEntriesAre (IsBare l.sections (desc l.owner.class)) (map method_entry l.entries) l.entry-index l.bares.items;
  summed : l.index ≡ sum (take l.entry-index (steps (map method_entry l.entries)));
  small : l.index < 2 ^ 32;
}
