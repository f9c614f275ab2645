use Rattle.std.proofs.Common.{map, take}
use Rattle.tables_names.specs.Closure.{NameRanks}
use Rattle.program_types.specs.View as view
use Rattle.file_limits.specs.Limits.{codes_in}
use Rattle.file_limits.specs.inner.Lowest.{IsLowestBroken}
use Rattle.file_limits.proofs.bodies.methods_number.Given as goal

abbrev pub invariant-loop-method : goal.invariant-loop-method
invariant-loop-method l = IsLowestBroken (NameRanks l.ranks) (codes_in (map view.method (take l.method-index l.methods))) l.least
