use Rattle.std.proofs.Common.{ℕ, ◌<◌, map, length}
use Rattle.program_types.specs.View.{try}
use Rattle.program_types.specs.Formed.{TryFormed}
use Rattle.code_rules.proofs.tries.tries_hold.Given as goal

abbrev pub invariant-loop-i : goal.invariant-loop-i
invariant-loop-i l = (i : ℕ) → i < l.i → TryFormed (length l.one.insns.now) (map try l.one.tries.now) i
