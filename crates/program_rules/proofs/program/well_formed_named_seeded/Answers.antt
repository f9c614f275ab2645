use Rattle.std.proofs.Common.{map, ap, ◌∙◌}
use Rattle.program_types.specs.View.{class, desc}
use Rattle.program_rules.proofs.NumberLaws.{carried}
use Rattle.program_rules.proofs.program.well_formed_named_seeded.Goals as goal

pub check_classes-requires-clause-numbers : goal.check_classes-requires-clause-numbers
check_classes-requires-clause-numbers c = carried c.as_slice.result.now (map class c.args.all.now.classes.now) c.in_ok-numbers.numbers (ap (map desc) c.as_slice.ensures.value ∙ c.in_ok-list.ensures.ok) c.in_ok-numbers.ensures.ok
