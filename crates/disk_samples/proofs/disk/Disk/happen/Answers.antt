use Rattle.std.proofs.Common.{◌≡◌, ◌∙◌, ◌+◌, [], ◌∷◌, length, length-append, ap, arith}
use Rattle.disk_samples.specs.declared.change.Entry.{Entry}
use Rattle.disk_samples.proofs.Sound.{numbered_more, named_more, room_more}
use Rattle.disk_samples.proofs.disk.Disk.happen.Goals as goal

pub invariant_of-self : goal.invariant_of-self
invariant_of-self c =
    let d = c.args.self.now in
    let e : Entry = record { change = c.args.change; outcome = c.args.outcome } in
    let more = c.add_entry.new.log.items in
    let longer : length more ≡ length d.log.items + 1 = ap length c.add_entry.ensures.items ∙ length-append d.log.items (e ∷ []) in
    record {
      numbered = numbered_more d.names.now d.log.items more e c.add_entry.ensures.items c.requires d.numbered;
      named = named_more d.names.now d.log.items more e c.add_entry.ensures.items c.requires d.named;
      room = room_more d.names.now more _ (omega (arith, longer, d.log.ok.0, c.add_entry.ensures.capacity));
    }
