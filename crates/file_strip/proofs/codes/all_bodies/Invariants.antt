use Rattle.std.proofs.Common.{◌<◌, ◌^◌}
use Rattle.file_layout.specs.Sections.{wide_all}
use Rattle.file_limits.specs.Wide.{wide_body}
use Rattle.file_limits.specs.inner.Wide.{body_values}
use Rattle.program_types.specs.Content.{Program}
use Rattle.file_renumber.specs.inner.Marked.{Columns}
use Rattle.file_strip.specs.inner.Bodies.{AreFirstBodies}
use Rattle.file_strip.specs.inner.Keeping.{Keeps}
use Rattle.file_strip.proofs.codes.all_bodies.Given as goal

abbrev pub invariant-loop-i : goal.invariant-loop-i
invariant-loop-i l = (numbers : Columns) (p : Program) → Keeps l.sections numbers p → wide_all wide_body (body_values p) < 2 ^ 32 → AreFirstBodies l.sections numbers p l.i l.bodies.items
