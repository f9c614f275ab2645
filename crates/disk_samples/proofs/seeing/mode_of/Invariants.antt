use Rattle.std.proofs.Common.{◌≡◌, take}
use Rattle.disk_samples.specs.Logs.{state_of}
use Rattle.disk_samples.proofs.seeing.mode_of.Given as goal

abbrev pub invariant-loop-entry : goal.invariant-loop-entry
invariant-loop-entry l = l.mode ≡ ((state_of (take l.entry-index l.log)).file l.number).mode
