use Rattle.std.proofs.Common.{map, take}
use Rattle.file_layout.specs.Sections.{wide_all}
use Rattle.program_types.specs.View as view
use Rattle.file_limits.specs.inner.Sum.{IsSum}
use Rattle.file_limits.specs.Wide.{bodies_in, wide_body}
use Rattle.file_limits.proofs.code_sizes.bodies_size.Given as goal

abbrev pub invariant-loop-method : goal.invariant-loop-method
invariant-loop-method l = IsSum l.sum (wide_all wide_body (bodies_in (map view.method (take l.method-index l.methods))))
