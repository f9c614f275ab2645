use Rattle.std.proofs.Common.{◌≡◌, map, take}
use Rattle.program_types.specs.View.{value}
use Rattle.listing_parse.specs.Members.{value_or_zero}
use Rattle.listing_parse.specs.inner.View.{given}
use Rattle.listing_parse.proofs.close.alloc_values.Given as goal

abbrev pub invariant-loop-i : goal.invariant-loop-i
invariant-loop-i l = map value l.values.items ≡ map value_or_zero (take l.i (map given l.all))
