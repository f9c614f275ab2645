use Rattle.std.proofs.Common.{◌⊎◌, inl, inr, sym, subst, refl}
use Rattle.dexasm_world.specs.State.{Path, FileState}
use Rattle.dexasm_world.specs.inner.Steps.{Same, Removed}
use Rattle.disk_samples.specs.Disks.{files_of}
use Rattle.disk_samples.specs.declared.change.Change.TheVariants.{Remove}
use Rattle.disk_samples.specs.declared.change.Outcome.TheVariants.{MayHaveLeft}
use Rattle.disk_samples.proofs.Stepping.{unchanged}
use Rattle.disk_samples.proofs.Calling.{gains_after, gains_now, gains_pass, fails_pass, fails_fault, fails_leftover, removed_at}
use Rattle.disk_samples.proofs.calls.DiskWorld.remove.Goals as goal

-- nothing has happened yet, or the name is gone
abbrev IsOnTheWay : FileState → Path → FileState → Type 0
IsOnTheWay s path t = Same s t ⊎ Removed path s t

pub returns-in-Success-clause-moments : goal.returns-in-Success-clause-moments
returns-in-Success-clause-moments c k j =
    let s = (files_of c.args.self.now).now in
    gains_pass _ _ _ (IsOnTheWay s c.args.path.now) c.in-Success.ensures (inr (removed_at c.in-Some.place c.args.path.now s c.in-Some.ensures.0))

pub returns-in-Success-clause-removed : goal.returns-in-Success-clause-removed
returns-in-Success-clause-removed c k j =
    let s = (files_of c.args.self.now).now in
    subst (Removed c.args.path.now s) (sym (gains_now _ _ _ c.in-Success.ensures)) (removed_at c.in-Some.place c.args.path.now s c.in-Some.ensures.0)

pub returns-in-Failure-clause-moments : goal.returns-in-Failure-clause-moments
returns-in-Failure-clause-moments c k j =
    let s = (files_of c.args.self.now).now in
    fails_pass _ _ _ _ (IsOnTheWay s c.args.path.now) c.in-Failure.ensures (inl (unchanged s)) (inr (removed_at c.in-Some.place c.args.path.now s c.in-Some.ensures.0))

pub returns-in-Failure-clause-cause : goal.returns-in-Failure-clause-cause
returns-in-Failure-clause-cause c k = fails_fault (Remove c.in-Some.place) MayHaveLeft c.args.self.now c.attempt.new.self refl c.in-Failure.ensures

pub returns-in-Failure-clause-left : goal.returns-in-Failure-clause-left
returns-in-Failure-clause-left c k = fails_leftover (Remove c.in-Some.place) MayHaveLeft c.args.self.now c.attempt.new.self refl c.in-Failure.ensures

pub returns-in-NoSpace-clause-moments : goal.returns-in-NoSpace-clause-moments
returns-in-NoSpace-clause-moments c k j =
    let s = (files_of c.args.self.now).now in
    gains_pass _ _ _ (IsOnTheWay s c.args.path.now) (gains_after _ _ _ _ c.in-NoSpace.ensures c.take_away.ensures) (inr (removed_at c.in-Some.place c.args.path.now s c.in-Some.ensures.0))

pub returns-in-NoSpace-clause-removed : goal.returns-in-NoSpace-clause-removed
returns-in-NoSpace-clause-removed c k j =
    let s = (files_of c.args.self.now).now in
    subst (Removed c.args.path.now s) (sym (gains_now _ _ _ (gains_after _ _ _ _ c.in-NoSpace.ensures c.take_away.ensures))) (removed_at c.in-Some.place c.args.path.now s c.in-Some.ensures.0)
