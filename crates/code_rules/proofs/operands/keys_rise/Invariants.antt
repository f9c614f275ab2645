use Rattle.std.proofs.Common.{ℕ, ◌<◌, ◌+◌}
use Rattle.code_rules.specs.inner.Parts.{KeyIsBelow}
use Rattle.code_rules.proofs.operands.keys_rise.Given as goal

abbrev pub invariant-loop-k : goal.invariant-loop-k
invariant-loop-k l = (j : ℕ) → j + 1 < l.k → KeyIsBelow l.keys j
