-- Values in the making, in memory.
use Rattle.std.specs.Prelude.{map, reverse}
use Rattle.program_types.specs.View.{value}
use Rattle.listing_lines.specs.Lines as spec
use Rattle.listing_lines.specs.declared.making.Making.{Making}

-- A value in the making; in memory the place of the innermost open array is the last.
unfoldable pub making : Making → spec.Making
making m = record { values = map value m.values.items; begins = reverse m.begins.items }
