use Rattle.std.proofs.Common.{◌≢◌, ℕ, ◌-◌, ◌%◌, ◌^◌, ◌<◌}
use Rattle.dex_value.proofs.widths.high_width.Given as goal

abbrev pub invariant-loop-width : goal.invariant-loop-width
invariant-loop-width l = (k : ℕ) → 0 < k → k < l.width → l.bits % 256 ^ (l.full - k) ≢ 0
