use Rattle.std.proofs.Common.{◌≡◌, ◌++◌, map, take}
use Rattle.program_types.specs.View.{member, value}
use Rattle.listing_print.specs.Canon.{statics_text}
use Rattle.listing_print.proofs.blocks.put_statics.Given as goal

abbrev pub invariant-loop-i : goal.invariant-loop-i
invariant-loop-i l = l.out.items ≡ l.fn.out.items ++ statics_text (map member (take l.i l.fields)) (map value l.values)
