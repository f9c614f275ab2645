use Rattle.std.proofs.Common.{ℕ, ◌-◌, ◌/◌, ◌≤◌, Err, take, length, sym, subst, refl, arith}
use Rattle.dexasm_world.specs.State.{FileState}
use Rattle.dexasm_world.specs.inner.Steps.{Wrote}
use Rattle.disk_samples.specs.Disks.{files_of}
use Rattle.disk_samples.specs.declared.change.Change.TheVariants.{Write}
use Rattle.disk_samples.specs.declared.change.Outcome.TheVariants.{Failed}
use Rattle.disk_samples.proofs.Stepping.{wrote_nothing}
use Rattle.disk_samples.proofs.Calling.{calls_pass, gains_now, gains_pass, refusal_cause, wrote_front}
use Rattle.disk_samples.proofs.calls.DiskWorld.put.Goals as goal

pub returns-in-Ok-call-clause-moments : goal.returns-in-Ok-call-clause-moments
returns-in-Ok-call-clause-moments c k =
    let s = (files_of c.args.self.now).now in
    let n = c.args.file.now.0 in
    let piece = c.args.piece.now in
    let half : ℕ = length piece - length piece / 2 in
    gains_pass _ _ _ (λ (t : FileState). (j : ℕ) × (j ≤ length piece) × Wrote n (take j piece) s t) c.in-Ok-call.ensures (half, omega arith, wrote_front n half c.in-Ok.front piece s c.in-Ok.ensures.items)

pub returns-in-Ok-call-clause-wrote : goal.returns-in-Ok-call-clause-wrote
returns-in-Ok-call-clause-wrote c k =
    let s = (files_of c.args.self.now).now in
    let piece = c.args.piece.now in
    subst (Wrote c.args.file.now.0 _ s) (sym (gains_now _ _ _ c.in-Ok-call.ensures)) (wrote_front c.args.file.now.0 (length piece - length piece / 2) c.in-Ok.front piece s c.in-Ok.ensures.items)

pub returns-in-Err-clause-moments : goal.returns-in-Err-clause-moments
returns-in-Err-clause-moments c k =
    let d = c.args.self.now in
    let s = (files_of d).now in
    let n = c.args.file.now.0 in
    let piece = c.args.piece.now in
    let half : ℕ = length piece - length piece / 2 in
    calls_pass {T = Unit {0}} (Write n c.in-Ok.front) Failed d c.call.new.self (Err c.in-Err.refusal) (λ (t : FileState). (j : ℕ) × (j ≤ length piece) × Wrote n (take j piece) s t)
    c.in-Err.ensures (0, omega arith, wrote_nothing n s) (half, omega arith, wrote_front n half c.in-Ok.front piece s c.in-Ok.ensures.items)

pub returns-in-Err-clause-cause : goal.returns-in-Err-clause-cause
returns-in-Err-clause-cause c k =
    refusal_cause (Unit {0}) (Write c.args.file.now.0 c.in-Ok.front) Failed c.args.self.now c.call.new.self c.in-Err.refusal refl c.in-Err.ensures
