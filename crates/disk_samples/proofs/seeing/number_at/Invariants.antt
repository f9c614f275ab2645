use Rattle.std.proofs.Common.{◌≡◌, take}
use Rattle.disk_samples.specs.Logs.{state_of}
use Rattle.disk_samples.proofs.seeing.number_at.Given as goal

abbrev pub invariant-loop-entry : goal.invariant-loop-entry
invariant-loop-entry l = l.number ≡ (state_of (take l.entry-index l.log)).stands l.place
