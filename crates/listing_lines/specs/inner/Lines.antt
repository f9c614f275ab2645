-- Beside Lines.antt: what no promise reaches.
use Rattle.std.specs.Prelude.{Bool, true, false}
use Rattle.listing_slots.specs.declared.kind.Kind.{Kind}
use Rattle.listing_slots.specs.declared.kind.Kind.TheVariants as kind

-- A line of this kind holds a value or lists of numbers, which take memory.
unfoldable pub takes_memory : Kind → Bool
takes_memory kind.Given = true
takes_memory kind.Packed = true
takes_memory kind.Sparse = true
takes_memory _ = false
