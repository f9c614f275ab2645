use Rattle.std.proofs.Common.{◌+◌, ◌*◌, map}
use Rattle.program_types.specs.Content.{values}
use Rattle.program_types.specs.View.{value}
use Rattle.dex_value.specs.Wide.{wide_value, wide_values}
use Rattle.dex_value.proofs.Appending.{Writing}
use Rattle.dex_value.proofs.writing.+values.Given as goal

abbrev pub decreases-put_value : goal.decreases-put_value
decreases-put_value l = 2 * wide_value (value l.one.now)

abbrev pub decreases-put_values : goal.decreases-put_values
decreases-put_values l = 2 * wide_values (values (map value l.all.now)) + 1

abbrev pub invariant-put_values-loop-one : goal.invariant-put_values-loop-one
invariant-put_values-loop-one l = Writing l.ranks l.fn.out.items l.out.items l.all l.one-index
