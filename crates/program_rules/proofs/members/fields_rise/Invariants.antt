use Rattle.std.proofs.Common.{ℕ, ◌<◌, ◌+◌, map}
use Rattle.program_types.specs.View.{member}
use Rattle.program_rules.specs.Rules.{IsBelowNext, member_key}
use Rattle.program_rules.proofs.members.fields_rise.Given as goal

abbrev pub invariant-loop-k : goal.invariant-loop-k
invariant-loop-k l = (j : ℕ) → j + 1 < l.k → IsBelowNext (map member_key (map member l.all)) j
