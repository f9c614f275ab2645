use Rattle.std.proofs.Common.{refl, arith}
use Rattle.code_rules.proofs.RunLaws.{run_among, run_below}
use Rattle.code_rules.proofs.registers.run_is_among.Goals as goal

pub returns-then-from : goal.returns-then-from
returns-then-from c = (
  λ t. absurd cc,
  λ h.
      let some = c.if-n-eq0.false in
      let below = run_below c.args.count c.args.first c.args.n (omega (arith, some)) h in
      let past = c.if-from.true in
      let a = c.from.ensures in
      let b = c.from-2.ensures in
      let d = c.from-3.ensures in
      absurd (omega (arith, below, past, a, b, d)),
)

pub returns : goal.returns
returns c = (
  λ t.
      let within = c.if-from.false in
      let a = c.from.ensures in
      let b = c.from-2.ensures in
      let d = c.from-3.ensures in
      run_among c.args.count c.args.first c.args.n (omega (arith, within, a, b, d)),
  λ h. refl,
)
