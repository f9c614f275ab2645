use Rattle.std.proofs.Common.{◌↔◌, map, drop}
use Rattle.std.specs.List.{AllByRecursion}
use Rattle.program_types.specs.View.{catch}
use Rattle.dex_base.specs.Descriptor.{IsDescriptor}
use Rattle.program_rules.proofs.bodies.catches_are_valid.Given as goal

abbrev pub invariant-loop-each : goal.invariant-loop-each
invariant-loop-each l = AllByRecursion (λ c. IsDescriptor c.ty) (map catch l.all) ↔ AllByRecursion (λ c. IsDescriptor c.ty) (map catch (drop l.each-index l.all))
