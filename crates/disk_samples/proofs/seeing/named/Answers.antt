use Rattle.disk_samples.proofs.Among.{among_now, among_not}
use Rattle.disk_samples.proofs.seeing.named.Goals as goal

pub returns-then-eq : goal.returns-then-eq
returns-then-eq c = among_now c.args.path.now c.args.names.now c.loop-name.name-index _ c.eq.result c.loop-name-test.true c.eq.ensures c.if-eq.true

pub loop-name-preserved : goal.loop-name-preserved
loop-name-preserved c =
    among_not c.args.path.now c.args.names.now c.loop-name.name-index _ c.eq.result c.loop-name-test.true c.eq.ensures c.if-eq.false c.loop-name.invariant
