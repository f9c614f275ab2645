use Rattle.std.proofs.Common.{◌≡◌, length, map}
use Rattle.tables_names.proofs.SortingLemmas.{ArePlaced}
use Rattle.tables_names.proofs.sorting.ranks_of.Given as goal

abbrev pub invariant-loop-rank : goal.invariant-loop-rank
invariant-loop-rank g l =
    record {
      long : length l.ranks.items ≡ length l.names;
      placed : ArePlaced (map g.N.Row.key (map (λ r. r.1) l.rows)) (map (λ r. r.2) l.rows) l.rank l.ranks.items;
    }
