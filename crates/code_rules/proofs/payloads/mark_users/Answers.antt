use Rattle.std.proofs.Common.{rules}
use Rattle.code_rules.proofs.UseLaws.{uses-same, uses-more}
use Rattle.code_rules.proofs.payloads.mark_users.Goals as goal
use Rattle.code_rules.proofs.payloads.mark_users.Goals.{then-refers, else-refers}

pub loop-j-preserved : goal.loop-j-preserved
loop-j-preserved c = elim c.if-refers.branch [
  | then-refers w ↦ rw (w.all-is, w.used_again.ensures) (uses-more _ _ _ _ c.loop-j.invariant (c.refers.ensures.0 (search rules)))
  | else-refers w ↦ rw w.all-is (uses-same _ _ _ _ c.reach_at-k.ensures c.loop-j.invariant (λ u. let t = c.refers.ensures.1 u in cc))
]
