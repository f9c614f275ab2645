use Rattle.std.proofs.Common.{ℕ, ◌<◌, map}
use Rattle.program_types.specs.View.{try}
use Rattle.code_write.specs.Fits.{TryFits}
use Rattle.code_write.proofs.tries.tries_fit.Given as goal

abbrev pub invariant-loop-i : goal.invariant-loop-i
invariant-loop-i l = (i : ℕ) → i < l.i → TryFits l.starts (map try l.tries) i
