use Rattle.std.proofs.Common.{◌≡◌, ◌++◌, map, take}
use Rattle.std.specs.List.{flat_map}
use Rattle.program_types.specs.View.{method}
use Rattle.listing_print.specs.Canon.{virtual_text}
use Rattle.listing_print.proofs.blocks.put_virtuals.Given as goal

abbrev pub invariant-loop-one : goal.invariant-loop-one
invariant-loop-one l = l.out.items ≡ l.fn.out.items ++ flat_map (virtual_text l.form) (map method (take l.one-index l.methods))
