use Rattle.std.proofs.Common.{◌↔◌, map, drop}
use Rattle.std.specs.List.{AllByRecursion}
use Rattle.program_types.specs.View.{method}
use Rattle.std.specs.Prelude.{IfSome}
use Rattle.code_rules.specs.inner.CodeRules.{KeepsRule}
use Rattle.program_rules.proofs.codes.methods_hold.Given as goal

abbrev pub invariant-loop-each : goal.invariant-loop-each
invariant-loop-each l = AllByRecursion (λ m. IfSome m.code (KeepsRule l.rule)) (map method l.all) ↔ AllByRecursion (λ m. IfSome m.code (KeepsRule l.rule)) (map method (drop l.each-index l.all))
