use Rattle.std.proofs.Common.{◌≡◌, ◌++◌}
use Rattle.std.specs.Prelude.{replicate}
use Rattle.listing_slots.specs.Shapes.{register4}
use Rattle.listing_slots.proofs.forms.push_registers.Given as goal

abbrev pub invariant-loop-turn : goal.invariant-loop-turn
invariant-loop-turn l = l.slots.items ≡ l.fn.slots.items ++ replicate l._turn register4
