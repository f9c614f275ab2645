use Rattle.std.proofs.Common.{ℕ, ◌<◌, map}
use Rattle.program_types.specs.View.{insn}
use Rattle.code_write.specs.Fits.{OffsetsFit}
use Rattle.code_write.proofs.offsets.offsets_fit.Given as goal

abbrev pub invariant-loop-k : goal.invariant-loop-k
invariant-loop-k l = (k : ℕ) → k < l.k → OffsetsFit (map insn l.insns) l.starts k
