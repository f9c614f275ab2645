use Rattle.std.proofs.Common.{◌∙◌, ap}
use Rattle.std.proofs.lemmas.Bool.Decides.{when_true}
use Rattle.dexasm_world.specs.State.{FileState}
use Rattle.disk_samples.specs.Logs.{state_of}
use Rattle.disk_samples.specs.Disks.{Gains, Stays}
use Rattle.disk_samples.specs.declared.change.Change.TheVariants.{Link}
use Rattle.disk_samples.specs.declared.change.Outcome.TheVariants.{Done}
use Rattle.disk_samples.specs.declared.change.Entry.{Entry}
use Rattle.disk_samples.proofs.Stepping.{linked_so, seen}
use Rattle.disk_samples.proofs.Calling.{gains_now}
use Rattle.disk_samples.proofs.disk.Disk.link.Goals as goal

pub returns : goal.returns
returns c is_done =
    let d = c.args.self.now in
    let e = c.happen.new.self in
    let x : Entry = record { change = Link c.in-Some.place c.in-Some-number_at.number; outcome = Done } in
    let gains = when_true (Gains d e x) (Stays d e) is_done c.happen.ensures in
    let there = seen d.log.items c.as_slice.result.now c.args.name.now c.number_at.result _ c.as_slice.ensures.value c.number_at.ensures c.in-Some-number_at.is in
    ap (λ (s : FileState). s.stands c.args.other.now) (gains_now d e x gains)
    ∙ linked_so c.in-Some.place c.args.other.now c.args.name.now c.in-Some-number_at.number (state_of d.log.items) c.in-Some.ensures.0 there
