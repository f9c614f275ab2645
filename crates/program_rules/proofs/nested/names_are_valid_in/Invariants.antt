use Rattle.program_types.specs.View.{value}
use Rattle.program_rules.specs.inner.Nested.{IsWalked}
use Rattle.program_rules.proofs.nested.names_are_valid_in.Given as goal

abbrev pub invariant-loop-levels : goal.invariant-loop-levels
invariant-loop-levels l = IsWalked (value l.root) l.known
