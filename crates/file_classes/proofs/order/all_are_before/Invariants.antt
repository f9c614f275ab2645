use Rattle.std.proofs.Common.{ℕ, ◌<◌}
use Rattle.std.specs.Prelude.{slice_index}
use Rattle.dex_container.specs.Layout.{size_of}
use Rattle.tables_rows.specs.inner.Halves.{halves}
use Rattle.file_classes.specs.ClassRows.{NoneDefines}
use Rattle.file_classes.proofs.order.all_are_before.Given as goal

abbrev pub invariant-loop-k : goal.invariant-loop-k
invariant-loop-k l = (k : ℕ) → k < l.k → NoneDefines l.sections l.i (size_of l.sections 5) (slice_index (halves l.types) k)
