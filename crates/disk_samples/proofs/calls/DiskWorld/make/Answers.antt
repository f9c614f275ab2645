use Rattle.std.proofs.Common.{◌≡◌, ◌∙◌, ◌⊎◌, inl, inr, ℕ, Bool, true, None, Err, sym, subst, refl}
use Rattle.dexasm_world.specs.State.{Path, FileState}
use Rattle.dexasm_world.specs.inner.Steps.{Same, MadeAs}
use Rattle.disk_samples.specs.Logs.{step}
use Rattle.disk_samples.specs.Disks.{files_of}
use Rattle.disk_samples.specs.declared.change.Change.{Change}
use Rattle.disk_samples.specs.declared.change.Change.TheVariants.{Make}
use Rattle.disk_samples.specs.declared.change.Outcome.TheVariants.{MayHaveLeft}
use Rattle.disk_samples.proofs.Stepping.{none_there, seen, unchanged}
use Rattle.disk_samples.proofs.Calling.{calls_pass, gains_now, gains_pass, made_as, refusal_cause, refusal_leaves}
use Rattle.disk_samples.proofs.calls.DiskWorld.make.Goals as goal
use Rattle.disk_samples.proofs.calls.DiskWorld.make.Goals.{After-new}

-- the file is made, and private if it is to be
made : (c : After-new) → let s = (files_of c.args.self.now).now in MadeAs c.args.is_private c.args.path.now c.len-number.result s (step (Make c.in-Some.place c.len-number.result c.new.result c.mode_of_new-mode.result) s)
made c =
    let d = c.args.self.now in
    let nothing = none_there c.number_at.result c.is_some.result c.is_some.ensures c.if-is_some.false in
    let free = seen d.log.items c.as_slice.result.now c.args.path.now c.number_at.result None c.as_slice.ensures.value c.number_at.ensures nothing in
    made_as d c.args.is_private c.in-Some.place c.args.path.now c.len-number.result c.new.result c.mode_of_new-mode.result c.in-Some.ensures.0 c.new.ensures.items (c.len-number.ensures ∙ d.log.ok.0) free d.numbered c.mode_of_new-mode.ensures

-- nothing has happened yet, or it is made
abbrev IsOnTheWay : Bool → FileState → Path → FileState → Type 0
IsOnTheWay is_private s path t = Same s t ⊎ ((m : ℕ) × (true ≡ true) × MadeAs is_private path m s t)

pub returns-in-Ok-clause-moments : goal.returns-in-Ok-clause-moments
returns-in-Ok-clause-moments c k =
    let plain : true ≡ true = refl in
    gains_pass _ _ _ (IsOnTheWay c.args.is_private (files_of c.args.self.now).now c.args.path.now) c.in-Ok.ensures (inr (c.len-number.result, plain, made (goal.at.returns-in-Ok-clause-moments c).After-new))

pub returns-in-Ok-clause-made : goal.returns-in-Ok-clause-made
returns-in-Ok-clause-made c k =
    subst (MadeAs c.args.is_private c.args.path.now c.len-number.result (files_of c.args.self.now).now) (sym (gains_now _ _ _ c.in-Ok.ensures)) (made (goal.at.returns-in-Ok-clause-made c).After-new)

pub returns-in-Err-clause-moments : goal.returns-in-Err-clause-moments
returns-in-Err-clause-moments c k =
    let s = (files_of c.args.self.now).now in
    let plain : true ≡ true = refl in
    calls_pass {T = Unit {0}} (Make c.in-Some.place c.len-number.result c.new.result c.mode_of_new-mode.result) MayHaveLeft c.args.self.now c.call.new.self (Err c.in-Err.refusal) (IsOnTheWay c.args.is_private s c.args.path.now)
    c.in-Err.ensures (inl (unchanged s)) (inr (c.len-number.result, plain, made (goal.at.returns-in-Err-clause-moments c).After-new))

pub returns-in-Err-clause-why : goal.returns-in-Err-clause-why
returns-in-Err-clause-why c k =
    let d = c.args.self.now in
    let change : Change = Make c.in-Some.place c.len-number.result c.new.result c.mode_of_new-mode.result in (
      refusal_cause (Unit {0}) change MayHaveLeft d c.call.new.self c.in-Err.refusal refl c.in-Err.ensures,
      refusal_leaves (Unit {0}) change MayHaveLeft d c.call.new.self c.in-Err.refusal refl c.in-Err.ensures,
    )
