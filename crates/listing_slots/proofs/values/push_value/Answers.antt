use Rattle.std.proofs.Common.{◌∙◌, arith}
use Rattle.listing_slots.proofs.ValueSlotLaws.{value_more, value_end, ends}
use Rattle.listing_slots.proofs.values.push_value.Goals as goal

pub loop-i-preserved : goal.loop-i-preserved
loop-i-preserved c = record {
  slots = rw (c.in_ok-push.ensures.items, c.next_due-slot.ensures.slot, c.next_due-slot.ensures.due) (c.loop-i.invariant.slots ∙ value_more c.loop-i.slots.items c.loop-i.due c.args.words.now c.loop-i.i _ c.loop-i-test.true);
  depth = omega (arith, c.loop-i.invariant.depth, c.next_due-slot.ensures.depth);
}

pub returns-clause-put : goal.returns-clause-put
returns-clause-put c = rw c.is_whole.ensures (ends c.args.slots.now.items c.loop-i.slots.items _ _ _ c.loop-i.invariant.slots (value_end c.loop-i.due c.args.words.now c.loop-i.i (omega arith)))
