use Rattle.std.proofs.Common.{◌∙◌, sym, ap, take, arith}
use Rattle.dexasm_world.specs.State.{FileState}
use Rattle.disk_samples.specs.Logs.{state_of}
use Rattle.disk_samples.proofs.Stepping.{state_at}
use Rattle.disk_samples.proofs.seeing.number_at.Goals as goal

pub loop-entry-preserved : goal.loop-entry-preserved
loop-entry-preserved c =
    sym (c.number_after-number.ensures (state_of (take c.loop-entry.entry-index c.args.log.now)) (sym c.loop-entry.invariant))
    ∙ sym (ap (λ (s : FileState). s.stands c.args.place.now) (state_at c.args.log.now c.loop-entry.entry-index c.entry-item.result (omega arith) c.entry-item.is))
