-- Beside CodeRules.antt: what no promise reaches.
use Rattle.program_types.specs.Content.{Code}
use Rattle.program_types.specs.Formed.{RegistersHold}
use Rattle.code_rules.specs.declared.rule.CodeRule.{CodeRule}
use Rattle.code_rules.specs.declared.rule.CodeRule.TheVariants as rule
use Rattle.code_rules.specs.CodeRules.{OperandsHold, PayloadsHold, TargetsHold, TriesHold}

-- What a rule requires of a code.
abbrev pub KeepsRule : CodeRule → Code → Type 0
KeepsRule rule.Operand c = OperandsHold c
KeepsRule rule.Target c = TargetsHold c
KeepsRule rule.PayloadUse c = PayloadsHold c
KeepsRule rule.Try c = TriesHold c
KeepsRule rule.Register c = RegistersHold c
