use Rattle.std.proofs.Common.{◌≡◌, ℕ, ◌<◌, ◌≤◌, get_or}
use Rattle.file_renumber.specs.inner.Numbers.{before}
use Rattle.file_renumber.proofs.column.count_before.Given as goal

abbrev pub invariant-loop-i : goal.invariant-loop-i
invariant-loop-i l = record {
  sum : l.before ≡ before l.fn.rows l.i;
  done : (k : ℕ) → k < l.i → get_or l.rows k 0 ≡ before l.fn.rows k;
  due : (k : ℕ) → l.i ≤ k → get_or l.rows k 0 ≡ get_or l.fn.rows k 0;
}
