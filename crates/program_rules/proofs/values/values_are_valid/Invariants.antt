use Rattle.std.proofs.Common.{◌↔◌, map, drop}
use Rattle.std.specs.List.{AllByRecursion}
use Rattle.program_types.specs.View.{value}
use Rattle.program_types.specs.Mentions.{NamesHold}
use Rattle.program_rules.specs.Valid.{IsValidName}
use Rattle.program_rules.proofs.values.values_are_valid.Given as goal

abbrev pub invariant-loop-each : goal.invariant-loop-each
invariant-loop-each l = AllByRecursion (NamesHold IsValidName) (map value l.all) ↔ AllByRecursion (NamesHold IsValidName) (map value (drop l.each-index l.all))
