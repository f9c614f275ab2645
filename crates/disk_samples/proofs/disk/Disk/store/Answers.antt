use Rattle.std.proofs.Common.{sym, subst}
use Rattle.std.proofs.lemmas.Bool.Decides.{when_true}
use Rattle.dexasm_world.specs.State.{FileState}
use Rattle.disk_samples.specs.Logs.{HoldsAt, state_of}
use Rattle.disk_samples.specs.Disks.{Gains, Stays}
use Rattle.disk_samples.specs.declared.change.Change.TheVariants.{Make}
use Rattle.disk_samples.specs.declared.change.Outcome.TheVariants.{Done}
use Rattle.disk_samples.specs.declared.change.Entry.{Entry}
use Rattle.disk_samples.proofs.Stepping.{stored_so}
use Rattle.disk_samples.proofs.Calling.{gains_now}
use Rattle.disk_samples.proofs.disk.Disk.store.Goals as goal

pub returns : goal.returns
returns c is_done =
    let d = c.args.self.now in
    let e = c.happen.new.self in
    let place = c.in-Some.place in
    let n = c.len-number.result in
    let x : Entry = record { change = Make place n c.in-Ok.held c.args.mode; outcome = Done } in
    let gains = when_true (Gains d e x) (Stays d e) is_done c.happen.ensures in
    subst (λ (s : FileState). HoldsAt s c.args.name.now c.args.bytes.now c.args.mode) (sym (gains_now d e x gains))
    (stored_so place c.args.name.now n c.in-Ok.held c.args.bytes.now c.args.mode (state_of d.log.items) c.in-Some.ensures.0 c.in-Ok.ensures.items)
