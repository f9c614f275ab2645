use Rattle.std.proofs.Common.{◌↔◌, map, drop}
use Rattle.std.specs.List.{AllByRecursion}
use Rattle.program_types.specs.View.{desc}
use Rattle.dex_base.specs.Descriptor.{IsClass}
use Rattle.program_rules.proofs.names.are_classes.Given as goal

abbrev pub invariant-loop-ty : goal.invariant-loop-ty
invariant-loop-ty l = AllByRecursion IsClass (map desc l.types) ↔ AllByRecursion IsClass (map desc (drop l.ty-index l.types))
