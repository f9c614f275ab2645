use Rattle.tables_names.specs.Keys.{key_of_str}
use Rattle.file_limits.specs.Wide.{wide_string}
use Rattle.file_limits.proofs.SumLaws.{room_more}
use Rattle.file_limits.proofs.text_sizes.strings_size.Goals as goal

pub loop-text-preserved : goal.loop-text-preserved
loop-text-preserved c = room_more wide_string key_of_str _ _ _ c.args.texts.now c.loop-text.text-index _ c.loop-text-test.true c.plus-sum.ensures c.loop-text.invariant c.string_size.ensures
