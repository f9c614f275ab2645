use Rattle.std.proofs.Common.{◌≢◌, ◌⊎◌, inl, inr, Err, sym, subst, refl}
use Rattle.dexasm_world.specs.State.{FileState}
use Rattle.dexasm_world.specs.inner.Steps.{Same, Moved}
use Rattle.disk_samples.specs.Logs.{step}
use Rattle.disk_samples.specs.Disks.{files_of}
use Rattle.disk_samples.specs.declared.change.Change.TheVariants.{Move}
use Rattle.disk_samples.specs.declared.change.Outcome.TheVariants.{Failed}
use Rattle.disk_samples.proofs.Stepping.{seen, unchanged}
use Rattle.disk_samples.proofs.Calling.{calls_pass, gains_now, gains_pass, moved_at, refusal_cause, refuses_cause, refuses_pass}
use Rattle.disk_samples.proofs.calls.DiskWorld.replace.Goals as goal
use Rattle.disk_samples.proofs.calls.DiskWorld.replace.Goals.{In-Some-named-2}

pub returns-in_default-clause-moments : goal.returns-in_default-clause-moments
returns-in_default-clause-moments c k can =
    let d = c.args.self.now in
    let s = (files_of d).now in
    refuses_pass d c.refuse.new.self c.refuse.result (λ (t : FileState). Same s t ⊎ Moved c.args.from.now c.args.to.now s t) c.refuse.ensures (inl (unchanged s))

pub returns-in_default-clause-why : goal.returns-in_default-clause-why
returns-in_default-clause-why c k can = refuses_cause c.args.self.now c.refuse.new.self c.refuse.result c.refuse.ensures

pub returns-in_default-named-2-clause-moments : goal.returns-in_default-named-2-clause-moments
returns-in_default-named-2-clause-moments c k can =
    let d = c.args.self.now in
    let s = (files_of d).now in
    refuses_pass d c.refuse-in_default-named-2.new.self c.refuse-in_default-named-2.result (λ (t : FileState). Same s t ⊎ Moved c.args.from.now c.args.to.now s t)
    c.refuse-in_default-named-2.ensures (inl (unchanged s))

pub returns-in_default-named-2-clause-why : goal.returns-in_default-named-2-clause-why
returns-in_default-named-2-clause-why c k can =
    refuses_cause c.args.self.now c.refuse-in_default-named-2.new.self c.refuse-in_default-named-2.result c.refuse-in_default-named-2.ensures

-- what stands at the first path goes to the second
moved : (c : In-Some-named-2) → let s = (files_of c.args.self.now).now in s.stands c.args.from.now ≢ s.stands c.args.to.now → Moved c.args.from.now c.args.to.now s (step (Move c.in-Some-named.old c.in-Some-named-2.new c.in-Some.number) s)
moved c two =
    let d = c.args.self.now in
    let there = seen d.log.items c.as_slice.result.now c.args.from.now c.number_at.result _ c.as_slice.ensures.value c.number_at.ensures c.in-Some.is in
    moved_at c.in-Some-named.old c.in-Some-named-2.new c.args.from.now c.args.to.now c.in-Some.number (files_of d).now c.in-Some-named.ensures.0 c.in-Some-named-2.ensures.0 there two

pub returns-in-Ok : goal.returns-in-Ok
returns-in-Ok c =
    let s = (files_of c.args.self.now).now in
    let at = moved (goal.at.returns-in-Ok c).In-Some-named-2 in
    record {
      moments = λ k can. gains_pass _ _ _ (λ (t : FileState). Same s t ⊎ Moved c.args.from.now c.args.to.now s t) c.in-Ok.ensures (inr (at can.two));
      moved = λ k can. subst (Moved c.args.from.now c.args.to.now s) (sym (gains_now _ _ _ c.in-Ok.ensures)) (at can.two);
      why = λ k can. tt;
    }

pub returns-in-Err-clause-moments : goal.returns-in-Err-clause-moments
returns-in-Err-clause-moments c k can =
    let s = (files_of c.args.self.now).now in
    let at = moved (goal.at.returns-in-Err-clause-moments c).In-Some-named-2 can.two in
    calls_pass {T = Unit {0}} (Move c.in-Some-named.old c.in-Some-named-2.new c.in-Some.number) Failed c.args.self.now c.call.new.self (Err c.in-Err.refusal) (λ (t : FileState). Same s t ⊎ Moved c.args.from.now c.args.to.now s t)
    c.in-Err.ensures (inl (unchanged s)) (inr at)

pub returns-in-Err-clause-why : goal.returns-in-Err-clause-why
returns-in-Err-clause-why c k can =
    refusal_cause (Unit {0}) (Move c.in-Some-named.old c.in-Some-named-2.new c.in-Some.number) Failed c.args.self.now c.call.new.self c.in-Err.refusal refl c.in-Err.ensures
