use Rattle.std.proofs.Common.{inl, refl}
use Rattle.tables_names.specs.Keys.{key_of_proto}
use Rattle.file_limits.specs.Wide.{wide_proto}
use Rattle.file_limits.proofs.SumLaws.{room_more}
use Rattle.file_limits.proofs.text_sizes.protos_size.Goals as goal

pub loop-proto-preserved : goal.loop-proto-preserved
loop-proto-preserved c =
    room_more wide_proto key_of_proto _ _ _ c.args.protos.now c.loop-proto.proto-index _ c.loop-proto-test.true c.plus-sum.ensures c.loop-proto.invariant
    (c.plus.ensures 12 _ (inl refl) c.list_size.ensures)
