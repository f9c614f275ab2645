use Rattle.std.proofs.Common.{◌+◌, ◌*◌}
use Rattle.program_types.specs.View.{value}
use Rattle.program_rules.specs.inner.Nested.{IsProgress, IsSoFar}
use Rattle.program_rules.proofs.NestedLaws.{rest_of}
use Rattle.program_rules.proofs.nested.+walk.Given as goal

-- a walk goes through levels, each with fewer
abbrev pub decreases-walk : goal.decreases-walk
decreases-walk l = 4 * l.levels + 3

abbrev pub decreases-examine : goal.decreases-examine
decreases-examine l = 4 * l.levels + 2

abbrev pub decreases-examine_array : goal.decreases-examine_array
decreases-examine_array l = 4 * l.levels + 1

abbrev pub decreases-step : goal.decreases-step
decreases-step l = 4 * l.levels

-- what is known of the array so far
abbrev pub invariant-examine_array-loop-each : goal.invariant-examine_array-loop-each
invariant-examine_array-loop-each l = IsSoFar (value l.array) l.all l.each-index l.so_far

-- what is known of the value so far
abbrev pub invariant-walk-loop-seen : goal.invariant-walk-loop-seen
invariant-walk-loop-seen l = IsProgress (value l.root) l.seen

-- how deep what is left is
abbrev pub decreases-walk-loop-seen : goal.decreases-walk-loop-seen
decreases-walk-loop-seen l = rest_of l.seen
