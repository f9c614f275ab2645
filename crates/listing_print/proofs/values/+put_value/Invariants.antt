use Rattle.std.proofs.Common.{◌≡◌, ◌++◌, ◌∷◌, map, take}
use Rattle.program_types.specs.Content as content
use Rattle.program_types.specs.View.{value}
use Rattle.listing_slots.specs.declared.key.Key.TheVariants as key
use Rattle.listing_print.specs.Operands.{operand_text, keyword, values_operands}
use Rattle.listing_print.proofs.values.+put_value.Given as goal

abbrev pub invariant-loop-each : goal.invariant-loop-each
invariant-loop-each l = l.out.items ≡ l.fn.out.items ++ operand_text (keyword key.Array ∷ keyword key.Open ∷ values_operands (content.values (map value (take l.each-index l.each-items))))
