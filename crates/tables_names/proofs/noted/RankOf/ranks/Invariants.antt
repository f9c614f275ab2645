use Rattle.std.proofs.Common.{◌≡◌, map, take}
use Rattle.tables_names.specs.inner.Noted.{rank_by}
use Rattle.tables_names.proofs.noted.RankOf.ranks.Given as goal

abbrev pub invariant-loop-number : goal.invariant-loop-number
invariant-loop-number l = l.ranks.items ≡ map (rank_by l.self) (take l.number-index l.numbers)
