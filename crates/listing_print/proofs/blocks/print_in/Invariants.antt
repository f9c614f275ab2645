use Rattle.std.proofs.Common.{◌≡◌, ◌++◌, map, take}
use Rattle.std.specs.List.{flat_map}
use Rattle.program_types.specs.View.{class}
use Rattle.listing_print.specs.Canon.{first_text, class_text}
use Rattle.listing_print.proofs.blocks.print_in.Given as goal

abbrev pub invariant-loop-one : goal.invariant-loop-one
invariant-loop-one l = l.out.items ≡ first_text l.form ++ flat_map (class_text l.form) (map class (take l.one-index l.one-items))
