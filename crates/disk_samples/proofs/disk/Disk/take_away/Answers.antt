use Rattle.std.proofs.Common.{◌≤◌, ◌<◌, ◌+◌, length, refl, arith}
use Rattle.std.specs.Prelude.{vec_capacity}
use Rattle.disk_samples.specs.Logs.{standing, state_of}
use Rattle.disk_samples.specs.declared.change.Change.TheVariants.{Remove}
use Rattle.disk_samples.specs.declared.change.Outcome.TheVariants.{Done}
use Rattle.disk_samples.specs.declared.change.Entry.{Entry}
use Rattle.disk_samples.proofs.Sound.{numbered_more, named_more, named_some, room_less, room_there}
use Rattle.disk_samples.proofs.disk.Disk.take_away.Goals as goal

pub add_entry-requires : goal.add_entry-requires
add_entry-requires c =
    let d = c.args.self.now in
    let there : length d.log.items < vec_capacity d.log = room_there d.names.now d.log.items c.args.place.now (vec_capacity d.log) d.named c.requires d.room in
    omega (arith, there, d.log.ok.0)

pub invariant_of-self : goal.invariant_of-self
invariant_of-self c =
    let d = c.args.self.now in
    let e : Entry = record { change = Remove c.args.place; outcome = Done } in
    let more = c.add_entry.new.log.items in
    let among = named_some d.names.now d.log.items c.args.place.now d.named c.requires in
    let left : standing (state_of more).stands d.names.now + length more ≤ vec_capacity d.log =
    room_less d.names.now d.log.items more c.args.place e (vec_capacity d.log) c.add_entry.ensures.items refl among c.requires d.room in
    record {
      numbered = numbered_more d.names.now d.log.items more e c.add_entry.ensures.items tt d.numbered;
      named = named_more d.names.now d.log.items more e c.add_entry.ensures.items tt d.named;
      room = omega (arith, left, c.add_entry.ensures.capacity);
    }
