use Rattle.std.proofs.Common.{ℕ, ◌-◌, ◌≤◌, ◌<◌, ◌+◌, length, slice_index}
use Rattle.code_read.specs.Places.{Rises}
use Rattle.code_read.proofs.plain.starts_of.Given as goal

abbrev pub invariant-loop-at : goal.invariant-loop-at
invariant-loop-at l = record {
  rises : Rises l.starts.items;
  below : (j : ℕ) → j < length l.starts.items → slice_index l.starts.items j < l.at;
  few : length l.starts.items ≤ l.at;
  inside : length l.starts.items ≤ l.end;
  within : l.at ≤ l.end + 4;
}

abbrev pub decreases-loop-at : goal.decreases-loop-at
decreases-loop-at l = l.end - l.at
