use Rattle.std.proofs.Common.{arith}
use Rattle.dex_base.proofs.NameLaws.{low_run_points, low_joined}
use Rattle.dex_base.proofs.simple_name.low_run.Goals as goal

pub returns-then-here-lt-LANES : goal.returns-then-here-lt-LANES
returns-then-here-lt-LANES c =
    low_run_points c.args.units.now _ (omega (arith, c.low_among-here.ensures.few)) (low_joined c.args.units.now _ _ _ (omega arith) c.loop-at.invariant c.low_among-here.ensures.low)

pub loop-at-preserved : goal.loop-at-preserved
loop-at-preserved c = low_joined c.args.units.now _ _ _ (omega arith) c.loop-at.invariant (λ k from under. c.low_among-here.ensures.low k from (omega arith))

pub returns : goal.returns
returns c =
    low_run_points c.args.units.now _ (omega (arith, c.low_among.ensures.few)) (low_joined c.args.units.now _ _ _ (omega arith) c.loop-at.invariant c.low_among.ensures.low)
