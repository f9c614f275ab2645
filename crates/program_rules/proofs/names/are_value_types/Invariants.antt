use Rattle.std.proofs.Common.{◌↔◌, map, drop}
use Rattle.std.specs.List.{AllByRecursion}
use Rattle.program_types.specs.View.{desc}
use Rattle.program_rules.specs.Valid.{IsValueType}
use Rattle.program_rules.proofs.names.are_value_types.Given as goal

abbrev pub invariant-loop-ty : goal.invariant-loop-ty
invariant-loop-ty l = AllByRecursion IsValueType (map desc l.types) ↔ AllByRecursion IsValueType (map desc (drop l.ty-index l.types))
