use Rattle.std.proofs.Common.{◌≡◌, All, map, take}
use Rattle.tables_names.specs.Rank.{IsAt}
use Rattle.tables_names.proofs.sorting.with_ranks.Given as goal

abbrev pub invariant-loop-i : goal.invariant-loop-i
invariant-loop-i g l =
    record {
      names : map (λ r. r.1) l.rows.items ≡ take l.i l.names;
      ranks : All (λ r. g.P.PartNumbers.has l.sorted (g.N.Row.key r.1) r.0) l.rows.items;
      numbers : All (λ r. IsAt (map g.N.Row.key l.names) r.2 (g.N.Row.key r.1)) l.rows.items;
    }
