use Rattle.std.proofs.Common.{◌*◌, ◌-◌, ◌≤◌, length}
use Rattle.file_renumber.proofs.WrittenLemmas.{BegunTo}
use Rattle.file_renumber.proofs.insns.starts_of.Given as goal

abbrev pub invariant-loop-at : goal.invariant-loop-at
invariant-loop-at l = record {
  begun : BegunTo l.units l.starts.items l.at;
  inside : 2 * l.at ≤ length l.units;
}

abbrev pub decreases-loop-at : goal.decreases-loop-at
decreases-loop-at l = l.end - l.at
