use Rattle.std.proofs.Common.{◌≡◌, ◌++◌, take}
use Rattle.listing_words.specs.Written.{name_text}
use Rattle.listing_words.proofs.print_names.put_name_units.Given as goal

abbrev pub invariant-loop-unit : goal.invariant-loop-unit
invariant-loop-unit l = l.out.items ≡ l.fn.out.items ++ name_text (take l.unit-index l.units)
