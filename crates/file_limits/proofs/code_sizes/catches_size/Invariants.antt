use Rattle.std.proofs.Common.{◌*◌, map, take}
use Rattle.code_write.specs.Fits.{catches_in}
use Rattle.program_types.specs.View as view
use Rattle.file_limits.specs.inner.Sum.{IsSum}
use Rattle.file_limits.proofs.code_sizes.catches_size.Given as goal

abbrev pub invariant-loop-one : goal.invariant-loop-one
invariant-loop-one l = IsSum l.sum (10 * catches_in (take l.one-index (map view.try l.tries)))
