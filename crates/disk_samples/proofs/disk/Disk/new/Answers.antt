use Rattle.std.proofs.Common.{◌∙◌, ◌≡◌, []}
use Rattle.disk_samples.proofs.Sound.{numbered_none, named_none, room_none}
use Rattle.disk_samples.proofs.disk.Disk.new.Goals as goal

pub invariant_of-result : goal.invariant_of-result
invariant_of-result c =
    let empty : c.reserve.new.self.items ≡ [] = c.reserve.ensures.items ∙ c.new-log.ensures.items in
    record {
      numbered = numbered_none c.reserve.new.self.items empty;
      named = named_none c.args.names.now c.reserve.new.self.items empty;
      room = room_none c.args.names.now c.reserve.new.self.items _ empty;
    }
