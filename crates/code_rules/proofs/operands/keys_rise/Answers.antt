use Rattle.std.proofs.Common.{◌-◌, refl, arith, rules}
use Rattle.code_rules.proofs.RiseLaws.{rising, risen}
use Rattle.code_rules.proofs.operands.keys_rise.Goals as goal

pub returns : goal.returns
returns c = (λ t. rising c.args.keys.now (search rules), λ h. refl)

pub returns-then-not-is_below : goal.returns-then-not-is_below
returns-then-not-is_below c = (
  λ t. absurd cc,
  λ h. let x = c.is_below.ensures.1 (risen c.args.keys.now h (c.loop-k.k - 1) (omega arith)) in search rules,
)
