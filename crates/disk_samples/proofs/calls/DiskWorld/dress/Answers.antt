use Rattle.std.proofs.Common.{◌⊎◌, inl, inr, refl}
use Rattle.dexasm_world.specs.State.{FileState}
use Rattle.dexasm_world.specs.inner.Steps.{Same, Dressed}
use Rattle.disk_samples.specs.Disks.{files_of}
use Rattle.disk_samples.specs.declared.change.Change.TheVariants.{Dress}
use Rattle.disk_samples.specs.declared.change.Outcome.TheVariants.{Failed}
use Rattle.disk_samples.proofs.Stepping.{unchanged, dressed_so}
use Rattle.disk_samples.proofs.Calling.{calls_pass, calls_done, calls_cause}
use Rattle.disk_samples.proofs.calls.DiskWorld.dress.Goals as goal

pub returns-clause-moments : goal.returns-clause-moments
returns-clause-moments c k =
    let d = c.args.self.now in
    let n = c.args.file.now.0 in
    let m = c.args.dress.mode in
    let s = (files_of d).now in
    calls_pass (Dress n m) Failed d c.call.new.self c.call.result (λ (t : FileState). Same s t ⊎ Dressed n m s t) c.call.ensures (inl (unchanged s)) (inr (dressed_so n m s))

pub returns-clause-dressed : goal.returns-clause-dressed
returns-clause-dressed c k =
    let d = c.args.self.now in
    let n = c.args.file.now.0 in
    let m = c.args.dress.mode in
    let s = (files_of d).now in
    calls_done (Dress n m) Failed d c.call.new.self c.call.result (Dressed n m s) c.call.ensures (dressed_so n m s)

pub returns-clause-cause : goal.returns-clause-cause
returns-clause-cause c k = calls_cause (Dress c.args.file.now.0 c.args.dress.mode) Failed c.args.self.now c.call.new.self c.call.result refl c.call.ensures
