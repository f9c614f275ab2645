use Rattle.std.proofs.Common.{ℕ, ◌<◌, ◌+◌, map}
use Rattle.program_types.specs.View.{method}
use Rattle.program_rules.specs.Rules.{IsBelowNext, method_key}
use Rattle.program_rules.proofs.members.methods_rise.Given as goal

abbrev pub invariant-loop-k : goal.invariant-loop-k
invariant-loop-k l = (j : ℕ) → j + 1 < l.k → IsBelowNext (map method_key (map method l.all)) j
