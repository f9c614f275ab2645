-- Beside Shapes.antt: what no promise reaches.
use Rattle.std.specs.Prelude.{ℕ, ◌+◌, List, ◌++◌, Option, Some, None}
use Rattle.listing_words.specs.Words.{Word}
use Rattle.listing_slots.specs.declared.slot.Slot.{Slot}
use Rattle.listing_slots.specs.declared.due.Due.{Due}
use Rattle.listing_slots.specs.declared.due.Due.TheVariants as due
use Rattle.listing_slots.specs.Shapes.{Row}

-- In how many arrays.
abbrev pub depth_of : Due → ℕ
depth_of (due.Value n) = n
depth_of (due.Word s n) = n
depth_of _ = 0

-- The contract of a private helper: after slots that are there already.
abbrev pub onto_row : List Slot → Option Row → Option Row
onto_row done None = None
onto_row done (Some r) = Some (r.0, done ++ r.1)
