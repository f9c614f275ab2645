use Rattle.tables_names.specs.Closure.{NameRanks}
use Rattle.file_limits.specs.inner.Limits.{BodyIsReady}
use Rattle.file_limits.proofs.BodyLaws.{no_body}
use Rattle.file_limits.proofs.RankLaws.{ready_at, methods_more}
use Rattle.file_limits.proofs.bodies.methods_number.Goals as goal

pub loop-method-init : goal.loop-method-init
loop-method-init c = no_body (NameRanks c.args.ranks.now)

pub body_number-requires-clause-ready : goal.body_number-requires-clause-ready
body_number-requires-clause-ready c = ready_at (BodyIsReady c.args.ranks.now) c.args.methods.now c.loop-method.method-index _ c.loop-method-test.true c.requires.ready

pub loop-method-preserved : goal.loop-method-preserved
loop-method-preserved c = methods_more (NameRanks c.args.ranks.now) c.args.methods.now c.loop-method.method-index _ _ _ _ c.loop-method-test.true c.lower_of-least.ensures c.loop-method.invariant c.in_ok-number.ensures.ok
