use Rattle.std.proofs.Common.{ℕ, ◌<◌, map}
use Rattle.program_types.specs.View.{desc}
use Rattle.program_rules.specs.Rules.{IsNew}
use Rattle.program_rules.proofs.order.are_distinct.Given as goal

abbrev pub invariant-loop-k : goal.invariant-loop-k
invariant-loop-k l = (k : ℕ) → k < l.k → IsNew (map desc l.types) k
