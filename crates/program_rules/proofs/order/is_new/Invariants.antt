use Rattle.std.proofs.Common.{ℕ, ◌<◌, ◌≢◌, map}
use Rattle.std.specs.List.{slice_get}
use Rattle.program_types.specs.View.{desc}
use Rattle.program_rules.proofs.order.is_new.Given as goal

abbrev pub invariant-loop-j : goal.invariant-loop-j
invariant-loop-j l = (j : ℕ) → j < l.j → slice_get (map desc l.types) j ≢ slice_get (map desc l.types) l.k
