use Rattle.std.proofs.Common.{List, take}
use Rattle.program_types.specs.Content.{Units}
use Rattle.tables_names.specs.Closure.{Five}
use Rattle.tables_rows.specs.inner.Halves.{halves}
use Rattle.file_put.specs.inner.Lists.{AddsIndices}
use Rattle.file_strip.specs.inner.Lists.{AreRanked}
use Rattle.file_strip.proofs.lists.put_numbers.Given as goal

abbrev pub invariant-loop-j : goal.invariant-loop-j
invariant-loop-j l = (s : Five) (ts : List Units) → AreRanked l.numbers s (halves l.indexes) ts → AddsIndices s l.fn.out.items l.out.items (take l.j ts)
