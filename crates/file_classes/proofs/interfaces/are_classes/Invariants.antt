use Rattle.std.proofs.Common.{map, take}
use Rattle.std.specs.List.{AllByRecursion}
use Rattle.dex_base.specs.Descriptor.{IsClass}
use Rattle.program_types.specs.View.{desc}
use Rattle.file_classes.proofs.interfaces.are_classes.Given as goal

abbrev pub invariant-loop-ty : goal.invariant-loop-ty
invariant-loop-ty l = AllByRecursion IsClass (map desc (take l.ty-index l.types))
