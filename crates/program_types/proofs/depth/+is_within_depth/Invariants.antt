use Rattle.std.proofs.Common.{◌≤◌, ◌↔◌, ◌-◌}
use Rattle.program_types.specs.View.{value}
use Rattle.program_types.specs.Depth.{depth, greatest_depth}
use Rattle.program_types.proofs.Nesting.{from}
use Rattle.program_types.proofs.depth.+is_within_depth.Given as goal

-- the limit bounds the calls that are under way
abbrev pub decreases-is_within_depth : goal.decreases-is_within_depth
decreases-is_within_depth l = l.limit

abbrev pub invariant-loop-each : goal.invariant-loop-each
invariant-loop-each l = (depth (value l.root) ≤ l.limit) ↔ (greatest_depth (from l.each-items l.each-index) ≤ l.limit - 1)
