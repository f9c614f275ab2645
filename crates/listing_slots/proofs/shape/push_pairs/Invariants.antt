use Rattle.std.proofs.Common.{◌≡◌, ◌++◌}
use Rattle.listing_slots.specs.Shapes.{pairs}
use Rattle.listing_slots.proofs.shape.push_pairs.Given as goal

abbrev pub invariant-loop-turn : goal.invariant-loop-turn
invariant-loop-turn l = l.slots.items ≡ l.fn.slots.items ++ pairs l._turn
