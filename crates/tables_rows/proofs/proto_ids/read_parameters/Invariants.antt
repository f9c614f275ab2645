use Rattle.std.proofs.Common.{◌≢◌, map, take}
use Rattle.std.specs.List.{AllByRecursion}
use Rattle.program_types.specs.View.{desc}
use Rattle.program_types.specs.Kinds.{void}
use Rattle.tables_rows.proofs.proto_ids.read_parameters.Given as goal

abbrev pub invariant-loop-param : goal.invariant-loop-param
invariant-loop-param l = AllByRecursion (λ t. t ≢ void) (take l.param-index (map desc l.params))
