use Rattle.std.proofs.Common.{◌≡◌, ℕ, ◌+◌, ◌<◌, get_or}
use Rattle.tables_rows.proofs.proto_ids.is_shorty.Given as goal
use Rattle.program_types.proofs.Letters.{letters}

abbrev pub invariant-loop-i : goal.invariant-loop-i
invariant-loop-i l = (k : ℕ) → k < l.i → get_or l.units (k + 1) 0 ≡ get_or (letters l.params) k 0
