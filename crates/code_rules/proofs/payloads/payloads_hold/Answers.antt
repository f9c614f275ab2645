use Rattle.std.proofs.Common.{rules, below_more}
use Rattle.code_rules.proofs.payloads.payloads_hold.Goals as goal

pub loop-k-preserved : goal.loop-k-preserved
loop-k-preserved c = below_more _ _ c.loop-k.invariant (c.payload_holds.ensures.0 (search rules))
