use Rattle.std.proofs.Common.{◌≡◌, [], map, take, get_or}
use Rattle.program_types.specs.View.{desc}
use Rattle.program_types.proofs.arena.alloc_descs.Given as goal

abbrev pub invariant-loop-row : goal.invariant-loop-row
invariant-loop-row l = map desc l.found.items ≡ map (λ row. get_or (map desc l.table) row []) (take l.row-index l.rows)
