use Rattle.std.proofs.Common.{◌≡◌, ◌≤◌, drop, map}
use Rattle.listing_words.specs.inner.View.{word}
use Rattle.listing_slots.specs.declared.due.Due.TheVariants as due
use Rattle.listing_slots.specs.Shapes.{value_slots}
use Rattle.listing_slots.specs.inner.Shapes.{depth_of}
use Rattle.listing_slots.proofs.ValueSlotLaws.{after_slots}
use Rattle.listing_slots.proofs.values.push_value.Given as goal

abbrev pub invariant-loop-i : goal.invariant-loop-i
invariant-loop-i l = record {
  slots : after_slots l.fn.slots.items (value_slots (due.Value 0) (map word l.words)) ≡ after_slots l.slots.items (value_slots l.due (map word (drop l.i l.words)));
  depth : depth_of l.due ≤ l.i;
}
