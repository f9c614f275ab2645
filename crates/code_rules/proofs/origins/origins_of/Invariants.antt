use Rattle.std.proofs.Common.{◌≡◌, ◌<◌, ℕ, length, get_or}
use Rattle.code_rules.proofs.origins.origins_of.Given as goal

abbrev pub invariant-loop-k : goal.invariant-loop-k
invariant-loop-k l = record {
  count : length l.all.items ≡ l.k;
  each : (j : ℕ) → j < l.k → get_or l.all.items j 0 ≡ j;
}
