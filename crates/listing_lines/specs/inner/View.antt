-- What is in memory.
use Rattle.std.specs.Prelude.{ℕ, List, Option, option_map}
use Rattle.std.specs.Borrow.{Bor}
use Rattle.listing_lines.specs.Labels as spec
use Rattle.listing_lines.specs.declared.known.Place.{Place}

-- A label, held by its name.
abbrev pub label : Bor (List ℕ) × Place → spec.Label
label e = record { name = e.0.now; line = e.1.line; number = e.1.number }

-- Where the label is, and what it marks.
abbrev pub place_in : Option spec.Label → Option Place
place_in o = option_map (λ (l : spec.Label). record { line = l.line; number = l.number }) o
