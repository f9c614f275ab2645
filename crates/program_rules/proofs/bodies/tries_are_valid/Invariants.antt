use Rattle.std.proofs.Common.{◌↔◌, map, drop}
use Rattle.std.specs.List.{AllByRecursion}
use Rattle.program_types.specs.View.{try}
use Rattle.dex_base.specs.Descriptor.{IsDescriptor}
use Rattle.program_rules.proofs.bodies.tries_are_valid.Given as goal

abbrev pub invariant-loop-each : goal.invariant-loop-each
invariant-loop-each l = AllByRecursion (λ t. AllByRecursion (λ c. IsDescriptor c.ty) t.catches) (map try l.all) ↔ AllByRecursion (λ t. AllByRecursion (λ c. IsDescriptor c.ty) t.catches) (map try (drop l.each-index l.all))
