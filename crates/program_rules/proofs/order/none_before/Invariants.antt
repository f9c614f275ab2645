use Rattle.std.proofs.Common.{ℕ, ◌<◌, map}
use Rattle.program_types.specs.View.{class, desc}
use Rattle.program_rules.specs.Rules.{IsOfType}
use Rattle.program_rules.proofs.order.none_before.Given as goal

abbrev pub invariant-loop-j : goal.invariant-loop-j
invariant-loop-j l = (j : ℕ) → j < l.j → ¬ IsOfType (map class l.classes) j (desc l.ty)
