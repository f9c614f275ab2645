use Rattle.std.proofs.Common.{map, take}
use Rattle.tables_names.specs.Closure.{NameRanks}
use Rattle.program_types.specs.View as view
use Rattle.file_limits.specs.inner.Lowest.{IsLowestOf}
use Rattle.file_limits.proofs.bodies.lowest_of.Given as goal

abbrev pub invariant-loop-i : goal.invariant-loop-i
invariant-loop-i l = IsLowestOf (NameRanks l.ranks) (map view.class (take l.i l.classes)) l.lowest
