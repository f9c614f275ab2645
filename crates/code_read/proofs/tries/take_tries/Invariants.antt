use Rattle.std.proofs.Common.{map}
use Rattle.program_types.specs.View.{try}
use Rattle.code_read.specs.inner.HandlerViews.{handler}
use Rattle.code_read.proofs.TryLaws.{SomeTaken}
use Rattle.code_read.proofs.tries.take_tries.Given as goal

abbrev pub invariant-loop-i : goal.invariant-loop-i
invariant-loop-i l = SomeTaken l.starts l.items l.all.offsets.items (map handler l.all.handlers.items) (map try l.found.items) l.i
