use Rattle.std.proofs.Common.{ℕ, ◌<◌}
use Rattle.std.specs.Prelude.{FitsSigned, slice_index}
use Rattle.std.specs.Int.{w32}
use Rattle.code_write.specs.Fits.{distance_of}
use Rattle.code_write.proofs.offsets.all_fit.Given as goal

abbrev pub invariant-loop-i : goal.invariant-loop-i
invariant-loop-i l = (i : ℕ) → i < l.i → FitsSigned w32 (distance_of l.starts l.at (slice_index l.targets i))
