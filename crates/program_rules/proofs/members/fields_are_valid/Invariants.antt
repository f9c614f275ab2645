use Rattle.std.proofs.Common.{◌↔◌, map, drop}
use Rattle.std.specs.List.{AllByRecursion}
use Rattle.program_types.specs.View.{member}
use Rattle.program_rules.specs.inner.Parts.{FieldIsValid}
use Rattle.program_rules.proofs.members.fields_are_valid.Given as goal

abbrev pub invariant-loop-each : goal.invariant-loop-each
invariant-loop-each l = AllByRecursion FieldIsValid (map member l.all) ↔ AllByRecursion FieldIsValid (map member (drop l.each-index l.all))
