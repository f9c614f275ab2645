use Rattle.std.proofs.Common.{◌*◌, ◌-◌, ◌≤◌, length}
use Rattle.file_renumber.proofs.WrittenLemmas.{WrittenTo}
use Rattle.file_renumber.proofs.insns.renumber_units.Given as goal

abbrev pub invariant-loop-at : goal.invariant-loop-at
invariant-loop-at l = record {
  written : WrittenTo l.numbers l.fn.units l.units l.at;
  inside : 2 * l.at ≤ length l.fn.units;
}

abbrev pub decreases-loop-at : goal.decreases-loop-at
decreases-loop-at l = l.end - l.at
