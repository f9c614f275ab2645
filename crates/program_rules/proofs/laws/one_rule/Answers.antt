use Rattle.program_rules.proofs.OneRule.{rule_one}
use Rattle.program_rules.proofs.laws.one_rule.Goals as goal

pub returns : goal.returns
returns c = rule_one
