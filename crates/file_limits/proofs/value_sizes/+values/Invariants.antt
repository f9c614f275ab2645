use Rattle.std.proofs.Common.{◌+◌, ◌*◌, map, take}
use Rattle.program_types.specs.Content.{values}
use Rattle.program_types.specs.Depth.{depth, greatest_depth}
use Rattle.program_types.specs.View as view
use Rattle.dex_value.specs.Wide.{wide_values}
use Rattle.file_limits.specs.inner.Sum.{IsSum}
use Rattle.file_limits.proofs.value_sizes.+values.Given as goal

abbrev pub decreases-value_size : goal.decreases-value_size
decreases-value_size l = 2 * depth (view.value l.one.now)

abbrev pub decreases-values_size : goal.decreases-values_size
decreases-values_size l = 2 * greatest_depth (values (map view.value l.all.now)) + 1

abbrev pub invariant-values_size-loop-one : goal.invariant-values_size-loop-one
invariant-values_size-loop-one l = IsSum l.sum (wide_values (values (map view.value (take l.one-index l.all))))
