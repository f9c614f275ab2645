use Rattle.std.proofs.Common.{◌↔◌, map, drop, ◌<◌}
use Rattle.std.specs.List.{AllByRecursion}
use Rattle.program_types.specs.View.{catch}
use Rattle.code_rules.proofs.tries.are_inside.Given as goal

abbrev pub invariant-loop-each : goal.invariant-loop-each
invariant-loop-each l = AllByRecursion (λ c. c.at < l.count) (map catch l.catches) ↔ AllByRecursion (λ c. c.at < l.count) (map catch (drop l.each-index l.catches))
