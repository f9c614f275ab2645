use Rattle.std.proofs.Common.{rules, append_assoc}
use Rattle.dexasm_world.proofs.delivery.part_name.Goals as goal

pub returns : goal.returns
returns c = search (rules, append_assoc)
