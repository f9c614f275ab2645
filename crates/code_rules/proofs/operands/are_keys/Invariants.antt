use Rattle.std.proofs.Common.{◌↔◌, drop}
use Rattle.std.specs.Prelude.{FitsSigned}
use Rattle.std.specs.Int.{w32}
use Rattle.std.specs.List.{AllByRecursion}
use Rattle.code_rules.proofs.operands.are_keys.Given as goal

abbrev pub invariant-loop-key : goal.invariant-loop-key
invariant-loop-key l = AllByRecursion (λ key. FitsSigned w32 key) l.keys ↔ AllByRecursion (λ key. FitsSigned w32 key) (drop l.key-index l.keys)
