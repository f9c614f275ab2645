use Rattle.std.proofs.Common.{[], refl}
use Rattle.dexasm_world.specs.inner.Steps.{Kept, Wrote}
use Rattle.disk_samples.specs.Logs.{step}
use Rattle.disk_samples.specs.Disks.{files_of}
use Rattle.disk_samples.specs.declared.change.Change.TheVariants.{Keep}
use Rattle.disk_samples.specs.declared.change.Outcome.TheVariants.{Failed}
use Rattle.disk_samples.proofs.Stepping.{wrote_nothing, kept_so, kept_wrote}
use Rattle.disk_samples.proofs.Calling.{calls_pass, calls_done, calls_cause}
use Rattle.disk_samples.proofs.calls.DiskWorld.keep.Goals as goal

pub returns-clause-moments : goal.returns-clause-moments
returns-clause-moments c k =
    let d = c.args.self.now in
    let n = c.args.file.now.0 in
    let s = (files_of d).now in
    calls_pass (Keep n) Failed d c.call.new.self c.call.result (Wrote n [] s) c.call.ensures (wrote_nothing n s) (kept_wrote n s (step (Keep n) s) (kept_so n s))

pub returns-clause-kept : goal.returns-clause-kept
returns-clause-kept c k =
    let d = c.args.self.now in
    let n = c.args.file.now.0 in
    let s = (files_of d).now in
    calls_done (Keep n) Failed d c.call.new.self c.call.result (Kept n s) c.call.ensures (kept_so n s)

pub returns-clause-cause : goal.returns-clause-cause
returns-clause-cause c k = calls_cause (Keep c.args.file.now.0) Failed c.args.self.now c.call.new.self c.call.result refl c.call.ensures
