use Rattle.std.proofs.Common.{◌≡◌, map, take}
use Rattle.tables_names.proofs.sorting.parts_of.Given as goal

abbrev pub invariant-loop-row : goal.invariant-loop-row
invariant-loop-row g l = l.parts.items ≡ map (λ r. r.0) (take l.row-index l.rows)
