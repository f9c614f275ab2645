use Rattle.std.proofs.Common.{◌≡◌, map, take}
use Rattle.tables_names.proofs.sorting.names_of.Given as goal

abbrev pub invariant-loop-row : goal.invariant-loop-row
invariant-loop-row g l = l.names.items ≡ map (λ r. r.1) (take l.row-index l.rows)
