-- Shapes in memory.
use Rattle.std.specs.Prelude.{List, drop}
use Rattle.listing_words.specs.Words.{Word}
use Rattle.listing_slots.specs.declared.slot.Slot.{Slot}
use Rattle.listing_slots.specs.declared.found.Found.{Found}
use Rattle.listing_slots.specs.Shapes.{Shape}

-- A shape whose slots and words lie beside it.
abbrev pub shape : Found → List Slot → List Word → Shape
shape f ss ws = record { kind = f.kind; label = f.label.now; slots = ss; words = drop f.lead ws }
