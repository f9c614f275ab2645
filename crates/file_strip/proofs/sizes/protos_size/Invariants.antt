use Rattle.file_limits.specs.Wide.{wide_proto}
use Rattle.program_types.specs.Content.{Program}
use Rattle.tables_names.specs.Needed.{needed}
use Rattle.file_strip.specs.inner.Keeping.{Keeps}
use Rattle.file_strip.specs.inner.Sizes.{IsFirstSum}
use Rattle.file_strip.proofs.sizes.protos_size.Given as goal

abbrev pub invariant-loop-i : goal.invariant-loop-i
invariant-loop-i l = (p : Program) → Keeps l.sections l.numbers p → IsFirstSum wide_proto l.numbers.protos (needed p).protos l.i l.sum
