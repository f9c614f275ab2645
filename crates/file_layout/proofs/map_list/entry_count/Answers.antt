use Rattle.std.proofs.Common.{arith, length-take, take}
use Rattle.file_layout.proofs.MapBytes.{few_some}
use Rattle.file_layout.proofs.map_list.entry_count.Goals as goal

pub overflow_add-count : goal.overflow_add-count
overflow_add-count c =
    let few = few_some (take c.loop-entry.entry-index c.args.entries.now) in
    let n = length-take c.loop-entry.entry-index c.args.entries.now in
    omega (arith, few, n, c.loop-entry.invariant, c.loop-entry-test.true, c.requires)
