use Rattle.std.proofs.Common.{◌≡◌, ◌+◌, ◌*◌, map, take}
use Rattle.tables_names.specs.Closure.{with_names}
use Rattle.program_types.specs.Content.{values}
use Rattle.program_types.specs.Depth.{depth, greatest_depth}
use Rattle.program_types.specs.Mentions.{names_of_values}
use Rattle.program_types.specs.View.{value}
use Rattle.file_needed.proofs.values.+values.Given as goal

abbrev pub decreases-add_value : goal.decreases-add_value
decreases-add_value l = 2 * depth (value l.one.now)

abbrev pub decreases-add_values : goal.decreases-add_values
decreases-add_values l = 2 * greatest_depth (values (map value l.all.now)) + 1

abbrev pub invariant-add_values-loop-one : goal.invariant-add_values-loop-one
invariant-add_values-loop-one l = l.needed ≡ with_names l.fn.needed (names_of_values (values (map value (take l.one-index l.all))))
