use Rattle.std.proofs.Common.{◌∙◌, ◌⊎◌, inl, inr, ℕ, None, Err, sym, subst, refl}
use Rattle.dexasm_world.specs.State.{Path, FileState}
use Rattle.dexasm_world.specs.inner.Steps.{Same, Begun}
use Rattle.disk_samples.specs.Logs.{step}
use Rattle.disk_samples.specs.Disks.{files_of}
use Rattle.disk_samples.specs.declared.change.Change.TheVariants.{Make, Empty}
use Rattle.disk_samples.specs.declared.change.Outcome.TheVariants.{Failed}
use Rattle.disk_samples.proofs.Stepping.{emptied_so, seen, unchanged}
use Rattle.disk_samples.proofs.Calling.{calls_pass, gains_now, gains_pass, made_at, refusal_cause, refuses_cause, refuses_pass}
use Rattle.disk_samples.proofs.calls.DiskWorld.begin.Goals as goal
use Rattle.disk_samples.proofs.calls.DiskWorld.begin.Goals.{In-Some, After-new}

-- nothing has happened yet, or the file is begun
abbrev IsOnTheWay : FileState → Path → FileState → Type 0
IsOnTheWay s path t = Same s t ⊎ ((m : ℕ) × Begun path m s t)

-- what stands there is emptied
emptied : (c : In-Some) → let s = (files_of c.args.self.now).now in Begun c.args.path.now c.in-Some.number s (step (Empty c.in-Some.number) s)
emptied c =
    let d = c.args.self.now in
    inl (seen d.log.items c.as_slice.result.now c.args.path.now c.number_at.result _ c.as_slice.ensures.value c.number_at.ensures c.in-Some.is, emptied_so c.in-Some.number (files_of d).now)

-- a new file is made
made : (c : After-new) → let s = (files_of c.args.self.now).now in Begun c.args.path.now c.len-number.result s (step (Make c.in-Some-named.place c.len-number.result c.new.result 420) s)
made c =
    let d = c.args.self.now in
    let free = seen d.log.items c.as_slice.result.now c.args.path.now c.number_at.result None c.as_slice.ensures.value c.number_at.ensures c.in_default.is in
    inr (made_at d c.in-Some-named.place c.args.path.now c.len-number.result c.new.result 420 c.in-Some-named.ensures.0 c.new.ensures.items (c.len-number.ensures ∙ d.log.ok.0) free d.numbered)

pub returns-in-Ok : goal.returns-in-Ok
returns-in-Ok c =
    let s = (files_of c.args.self.now).now in
    let begun = emptied (goal.at.returns-in-Ok c).In-Some in
    record {
      moments = λ k. gains_pass _ _ _ (IsOnTheWay s c.args.path.now) c.in-Ok.ensures (inr (c.in-Some.number, begun));
      begun = λ k. subst (Begun c.args.path.now c.in-Some.number s) (sym (gains_now _ _ _ c.in-Ok.ensures)) begun;
      cause = λ k. tt;
    }

pub returns-in-Err-clause-moments : goal.returns-in-Err-clause-moments
returns-in-Err-clause-moments c k =
    let s = (files_of c.args.self.now).now in
    let begun = emptied (goal.at.returns-in-Err-clause-moments c).In-Some in
    calls_pass {T = Unit {0}} (Empty c.in-Some.number) Failed c.args.self.now c.call.new.self (Err c.in-Err.refusal) (IsOnTheWay s c.args.path.now) c.in-Err.ensures (inl (unchanged s)) (inr (c.in-Some.number, begun))

pub returns-in-Err-clause-cause : goal.returns-in-Err-clause-cause
returns-in-Err-clause-cause c k = refusal_cause (Unit {0}) (Empty c.in-Some.number) Failed c.args.self.now c.call.new.self c.in-Err.refusal refl c.in-Err.ensures

pub returns-then-self-clause-moments : goal.returns-then-self-clause-moments
returns-then-self-clause-moments c k =
    let s = (files_of c.args.self.now).now in
    refuses_pass c.args.self.now c.refuse.new.self c.refuse.result (IsOnTheWay s c.args.path.now) c.refuse.ensures (inl (unchanged s))

pub returns-then-self-clause-cause : goal.returns-then-self-clause-cause
returns-then-self-clause-cause c k = refuses_cause c.args.self.now c.refuse.new.self c.refuse.result c.refuse.ensures

pub returns-in_default-named-clause-moments : goal.returns-in_default-named-clause-moments
returns-in_default-named-clause-moments c k =
    let s = (files_of c.args.self.now).now in
    refuses_pass c.args.self.now c.refuse-in_default-named.new.self c.refuse-in_default-named.result (IsOnTheWay s c.args.path.now) c.refuse-in_default-named.ensures (inl (unchanged s))

pub returns-in_default-named-clause-cause : goal.returns-in_default-named-clause-cause
returns-in_default-named-clause-cause c k =
    refuses_cause c.args.self.now c.refuse-in_default-named.new.self c.refuse-in_default-named.result c.refuse-in_default-named.ensures

pub returns-in-Ok-call : goal.returns-in-Ok-call
returns-in-Ok-call c =
    let s = (files_of c.args.self.now).now in
    let begun = made (goal.at.returns-in-Ok-call c).After-new in
    record {
      moments = λ k. gains_pass _ _ _ (IsOnTheWay s c.args.path.now) c.in-Ok-call.ensures (inr (c.len-number.result, begun));
      begun = λ k. subst (Begun c.args.path.now c.len-number.result s) (sym (gains_now _ _ _ c.in-Ok-call.ensures)) begun;
      cause = λ k. tt;
    }

pub returns-in-Err-call-clause-moments : goal.returns-in-Err-call-clause-moments
returns-in-Err-call-clause-moments c k =
    let s = (files_of c.args.self.now).now in
    let begun = made (goal.at.returns-in-Err-call-clause-moments c).After-new in
    calls_pass {T = Unit {0}} (Make c.in-Some-named.place c.len-number.result c.new.result 420) Failed c.args.self.now c.call-2.new.self (Err c.in-Err-call.refusal) (IsOnTheWay s c.args.path.now)
    c.in-Err-call.ensures (inl (unchanged s)) (inr (c.len-number.result, begun))

pub returns-in-Err-call-clause-cause : goal.returns-in-Err-call-clause-cause
returns-in-Err-call-clause-cause c k =
    refusal_cause (Unit {0}) (Make c.in-Some-named.place c.len-number.result c.new.result 420) Failed c.args.self.now c.call-2.new.self c.in-Err-call.refusal refl c.in-Err-call.ensures
