use Rattle.std.proofs.Common.{◌↔◌, map, drop, ◌≤◌}
use Rattle.std.specs.List.{AllByRecursion}
use Rattle.program_types.specs.View.{value}
use Rattle.program_types.specs.Depth.{depth, most_depth}
use Rattle.program_rules.proofs.values.are_shallow.Given as goal

abbrev pub invariant-loop-each : goal.invariant-loop-each
invariant-loop-each l = AllByRecursion (λ v. depth v ≤ most_depth) (map value l.all) ↔ AllByRecursion (λ v. depth v ≤ most_depth) (map value (drop l.each-index l.all))
