use Rattle.std.proofs.Common.{ℕ, ◌<◌, map}
use Rattle.program_types.specs.View.{insn}
use Rattle.code_write.specs.Fits.{IsEven}
use Rattle.code_write.proofs.offsets.are_even.Given as goal

abbrev pub invariant-loop-k : goal.invariant-loop-k
invariant-loop-k l = (k : ℕ) → k < l.k → IsEven (map insn l.insns) l.starts k
