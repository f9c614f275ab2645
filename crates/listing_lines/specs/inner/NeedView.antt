-- A need in memory.
use Rattle.listing_lines.specs.Needs as needs
use Rattle.listing_lines.specs.declared.needs.Need.{Need}

-- a line, and how many instructions it needs
abbrev pub need : Need → needs.Need
need n = record { line = n.line; count = n.count }
