use Rattle.std.proofs.Common.{ℕ, ◌<◌, ◌-◌, ◌≤◌, length, get_or}
use Rattle.code_read.proofs.places.split.Given as goal

abbrev pub invariant-loop-low : goal.invariant-loop-low
invariant-loop-low l = record {
  order : l.low ≤ l.high;
  within : l.high ≤ length l.starts;
  before : (k : ℕ) → k < l.low → get_or l.starts k 0 < l.x;
  after : (k : ℕ) → l.high ≤ k → k < length l.starts → l.x ≤ get_or l.starts k 0;
}

abbrev pub decreases-loop-low : goal.decreases-loop-low
decreases-loop-low l = l.high - l.low
