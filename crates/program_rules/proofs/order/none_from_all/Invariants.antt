use Rattle.std.proofs.Common.{◌↔◌, map, drop}
use Rattle.std.specs.List.{AllByRecursion}
use Rattle.program_types.specs.View.{desc}
use Rattle.program_types.specs.View.{class}
use Rattle.program_rules.specs.Rules.{NoneFrom}
use Rattle.program_rules.proofs.order.none_from_all.Given as goal

abbrev pub invariant-loop-ty : goal.invariant-loop-ty
invariant-loop-ty l = AllByRecursion (NoneFrom (map class l.classes) l.from) (map desc l.types) ↔ AllByRecursion (NoneFrom (map class l.classes) l.from) (map desc (drop l.ty-index l.types))
