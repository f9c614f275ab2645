use Rattle.std.proofs.Common.{arith, inl, refl}
use Rattle.file_limits.proofs.SumLaws.{some_list}
use Rattle.file_limits.proofs.text_sizes.list_size.Goals as goal

pub returns-in_default : goal.returns-in_default
returns-in_default c = some_list c.args.types.now _ (omega (arith, c.in_default)) (c.plus.ensures 7 _ (inl refl) c.times.ensures)
