use Rattle.std.proofs.Common.{◌↔◌, length, map, drop}
use Rattle.std.specs.List.{AllByRecursion}
use Rattle.program_types.specs.Content.{Program}
use Rattle.program_types.specs.View.{desc}
use Rattle.program_rules.specs.inner.Numbers.{AreNumbers, types}
use Rattle.program_rules.specs.Rules.{NoneFrom}
use Rattle.program_rules.proofs.numbers.are_none_from.Given as goal

abbrev pub invariant-loop-ty : goal.invariant-loop-ty
invariant-loop-ty l = (p : Program) → AreNumbers (types p) (length p) l.numbers → AllByRecursion (NoneFrom p l.from) (map desc l.list) ↔ AllByRecursion (NoneFrom p l.from) (map desc (drop l.ty-index l.list))
