use Rattle.std.proofs.Common.{◌-◌}
use Rattle.dex_base.specs.inner.Names.{AreLowPoints}
use Rattle.dex_base.proofs.simple_name.low_run.Given as goal

abbrev pub invariant-loop-at : goal.invariant-loop-at
invariant-loop-at l = AreLowPoints l.units 0 l.at

abbrev pub decreases-loop-at : goal.decreases-loop-at
decreases-loop-at l = l.last - l.at
