use Rattle.std.proofs.Common.{◌≡◌, ◌++◌, map, take}
use Rattle.program_types.specs.View.{catch}
use Rattle.listing_print.specs.Canon.{catches_text}
use Rattle.listing_print.proofs.blocks.put_catches.Given as goal

abbrev pub invariant-loop-one : goal.invariant-loop-one
invariant-loop-one l = l.out.items ≡ l.fn.out.items ++ catches_text l.form (map catch (take l.one-index l.catches))
