use Rattle.std.proofs.Common.{◌↔◌, map, drop}
use Rattle.std.specs.List.{AllByRecursion}
use Rattle.std.specs.Prelude.{IfSome}
use Rattle.program_types.specs.View.{method}
use Rattle.code_rules.specs.CodeRules.{PayloadsHold}
use Rattle.program_rules.proofs.codes.methods_uses_hold.Given as goal

abbrev pub invariant-loop-each : goal.invariant-loop-each
invariant-loop-each l = AllByRecursion (λ m. IfSome m.code PayloadsHold) (map method l.all) ↔ AllByRecursion (λ m. IfSome m.code PayloadsHold) (map method (drop l.each-index l.all))
