use Rattle.std.proofs.Common.{map, length, arith}
use Rattle.std.proofs.lemmas.List.{length-map}
use Rattle.program_types.specs.View.{try}
use Rattle.code_write.proofs.ItemPieces.{some-at, within-at, turn-at, items-end}
use Rattle.code_write.proofs.items.put_items.Goals as goal

pub put_item-requires-clause-some : goal.put_item-requires-clause-some
put_item-requires-clause-some c = some-at (length c.args.starts.now) c.args.tries.now c.loop-i.i _ c.loop-i-test.true (c.requires.formed c.loop-i.i c.loop-i-test.true)

pub put_item-requires-clause-within : goal.put_item-requires-clause-within
put_item-requires-clause-within c = within-at (length c.args.starts.now) c.args.tries.now c.loop-i.i _ c.loop-i-test.true (c.requires.formed c.loop-i.i c.loop-i-test.true)

pub loop-i-preserved : goal.loop-i-preserved
loop-i-preserved c = turn-at c.args.size c.args.starts.now c.args.tries.now c.args.offsets.now _ _ _ c.loop-i.i _ c.loop-i-test.true c.requires.count c.in_ok-put_item.ensures.ok c.loop-i.invariant

pub returns-clause-ok : goal.returns-clause-ok
returns-clause-ok c =
    let m = length-map c.args.tries.now try in
    items-end c.args.size c.args.starts.now (map try c.args.tries.now) c.args.offsets.now _ _ c.loop-i.i (omega arith) c.loop-i.invariant
