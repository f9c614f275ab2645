use Rattle.std.proofs.Common.{map, take}
use Rattle.file_layout.specs.Sections.{wide_all}
use Rattle.program_types.specs.View as view
use Rattle.file_limits.specs.inner.Sum.{IsSum}
use Rattle.file_limits.specs.Wide.{wide_class}
use Rattle.file_limits.proofs.file_size.classes_size.Given as goal

abbrev pub invariant-loop-class : goal.invariant-loop-class
invariant-loop-class l = IsSum l.sum (wide_all wide_class (map view.class (take l.class-index l.classes)))
