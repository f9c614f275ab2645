use Rattle.std.proofs.Common.{◌+◌, take}
use Rattle.dex_base.specs.Mutf8.{mutf8_length}
use Rattle.file_limits.specs.inner.Sum.{IsSum}
use Rattle.file_limits.proofs.text_sizes.string_size.Given as goal

abbrev pub invariant-loop-unit : goal.invariant-loop-unit
invariant-loop-unit l = IsSum l.sum (10 + mutf8_length (take l.unit-index l.unit-items))
