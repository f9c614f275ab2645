-- Well-formed programs, as `write` requires.
use Rattle.program_types.specs.Content.{Program}
use Rattle.program_rules.specs.Ranges.{InRange}
use Rattle.program_rules.specs.Rules.{RulesHold}

-- A program is well formed: its numbers and units lie in the ranges of their types, and each class keeps the rules.
pub record WellFormed (p : Program) : Type 0 where
  pub ranges : InRange p
  pub rules : RulesHold p
