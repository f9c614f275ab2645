use Rattle.dexasm_world.proofs.Outcomes.{can_make, can_dress, can_put, can_keep, can_move, can_remove, can_begin, can_fail}
use Rattle.dexasm_world.proofs.possible.each_call_is_possible.Goals as goal

pub returns : goal.returns
returns c = record { make = can_make; dress = can_dress; put = can_put; keep = can_keep; replace = can_move; remove = can_remove; begin = can_begin; fail = can_fail }
