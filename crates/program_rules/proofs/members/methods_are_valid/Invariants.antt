use Rattle.std.proofs.Common.{◌↔◌, map, drop}
use Rattle.std.specs.List.{AllByRecursion}
use Rattle.program_types.specs.View.{method}
use Rattle.program_rules.specs.inner.Parts.{MethodIsValid}
use Rattle.program_rules.proofs.members.methods_are_valid.Given as goal

abbrev pub invariant-loop-each : goal.invariant-loop-each
invariant-loop-each l = AllByRecursion MethodIsValid (map method l.all) ↔ AllByRecursion MethodIsValid (map method (drop l.each-index l.all))
