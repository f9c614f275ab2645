use Rattle.std.proofs.Common.{◌↔◌}
use Rattle.program_types.specs.View.{value}
use Rattle.program_types.specs.Mentions.{NamesHold, AllNamesHold}
use Rattle.program_rules.specs.Valid.{IsValidName}
use Rattle.program_types.proofs.Nesting.{from}
use Rattle.program_rules.proofs.values.+value_is_valid.Given as goal

abbrev pub invariant-loop-each : goal.invariant-loop-each
invariant-loop-each l = NamesHold IsValidName (value l.root) ↔ AllNamesHold IsValidName (from l.each-items l.each-index)
