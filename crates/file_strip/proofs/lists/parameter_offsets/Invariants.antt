use Rattle.program_types.specs.Content.{Program}
use Rattle.file_strip.specs.inner.Keeping.{Keeps}
use Rattle.file_strip.specs.inner.Lists.{AreFirstLists}
use Rattle.file_strip.proofs.lists.parameter_offsets.Given as goal

abbrev pub invariant-loop-i : goal.invariant-loop-i
invariant-loop-i l = (p : Program) → Keeps l.sections l.numbers p → AreFirstLists l.sections l.numbers p l.i l.offs.items
