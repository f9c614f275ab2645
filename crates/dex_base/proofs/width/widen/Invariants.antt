use Rattle.std.proofs.Common.{◌≡◌, ℕ, ◌<◌, length, get_or}
use Rattle.dex_base.proofs.width.widen.Given as goal

abbrev pub invariant-loop-i : goal.invariant-loop-i
invariant-loop-i l = record {
  written : (k : ℕ) → k < l.i → get_or l.units k 0 ≡ get_or l.bytes k 0;
  length : length l.units ≡ length l.bytes;
}
