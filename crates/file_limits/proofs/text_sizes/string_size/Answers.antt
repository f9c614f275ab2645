use Rattle.std.proofs.Common.{inl}
use Rattle.file_limits.proofs.SumLaws.{text_more}
use Rattle.file_limits.proofs.text_sizes.string_size.Goals as goal

pub loop-unit-preserved : goal.loop-unit-preserved
loop-unit-preserved c = text_more _ _ _ c.args.text.units.now c.loop-unit.unit-index _ c.loop-unit-test.true c.plus-sum.ensures c.loop-unit.invariant (inl c.unit_length.ensures)
