use Rattle.std.proofs.Common.{◌≡◌, ◌++◌, map, take}
use Rattle.std.specs.List.{flat_map}
use Rattle.program_types.specs.View.{try}
use Rattle.listing_print.specs.Canon.{try_text}
use Rattle.listing_print.proofs.blocks.put_tries.Given as goal

abbrev pub invariant-loop-one : goal.invariant-loop-one
invariant-loop-one l = l.out.items ≡ l.fn.out.items ++ flat_map (try_text l.form) (map try (take l.one-index l.tries))
