use Rattle.std.proofs.Common.{arith, rules}
use Rattle.code_rules.proofs.TryLaws.{after-at}
use Rattle.code_rules.proofs.tries.is_after.Goals as goal

pub returns : goal.returns
returns c =
    let h = after-at c.args.tries.now c.args.i (omega arith) c.requires.inside in
    (λ t. h.0 (search rules), λ b. let x = h.1 b in search rules)
