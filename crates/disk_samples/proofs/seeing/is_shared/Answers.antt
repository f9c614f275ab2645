use Rattle.std.proofs.Common.{◌≡◌, Some, List, ℕ}
use Rattle.disk_samples.specs.Logs.{state_of}
use Rattle.disk_samples.proofs.Among.{each_among}
use Rattle.disk_samples.proofs.seeing.is_shared.Goals as goal

pub loop-name-preserved : goal.loop-name-preserved
loop-name-preserved c = each_among (λ (q : List ℕ). (state_of c.args.log.now).stands q ≡ Some c.args.number → q ≡ c.args.place.now) c.args.names.now c.loop-name.name-index _
    c.loop-name-test.true c.loop-name.invariant (c.is_other.ensures.same c.if-is_other.false)
