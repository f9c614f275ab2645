use Rattle.std.proofs.Common.{◌-◌, ◌≤◌, length}
use Rattle.tables_rows.specs.Names.{NameIsAt}
use Rattle.code_read.proofs.VisitLaws.{PassedRun}
use Rattle.code_read.proofs.visiting.walk_units.Given as goal

abbrev pub invariant-loop-at : goal.invariant-loop-at
invariant-loop-at l = record {
  run : PassedRun (NameIsAt l.visitor.tables.now) l.units l.visitor.registers l.marks l.at;
  inside : l.at ≤ length l.marks;
}

abbrev pub decreases-loop-at : goal.decreases-loop-at
decreases-loop-at l = length l.initial.marks - l.at
