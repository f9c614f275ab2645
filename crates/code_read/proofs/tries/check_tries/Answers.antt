use Rattle.std.proofs.Common.{below_more, rules}
use Rattle.code_read.specs.Faults.{try_fault}
use Rattle.code_read.proofs.tries.check_tries.Goals as goal

pub returns-then-not-try_holds-clause-err : goal.returns-then-not-try_holds-clause-err
returns-then-not-try_holds-clause-err c = rw c.at.ensures (record {
  number = c.loop-i.i;
  within = c.loop-i-test.true;
  breaks = record { broken = λ h. let t = c.try_holds.ensures.1 h in cc; is = λ i. try_fault c.args.base (c.from.ensures i) };
  before = c.loop-i.invariant;
})

pub loop-i-preserved : goal.loop-i-preserved
loop-i-preserved c = below_more _ _ c.loop-i.invariant (c.try_holds.ensures.0 (search rules))
