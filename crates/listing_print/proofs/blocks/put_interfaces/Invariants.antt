use Rattle.std.proofs.Common.{◌≡◌, ◌++◌, map, take}
use Rattle.std.specs.List.{flat_map}
use Rattle.program_types.specs.View.{desc}
use Rattle.listing_lines.specs.Lines as spec
use Rattle.listing_print.specs.Printed.{keyed_text}
use Rattle.listing_print.proofs.blocks.put_interfaces.Given as goal

abbrev pub invariant-loop-one : goal.invariant-loop-one
invariant-loop-one l = l.out.items ≡ l.fn.out.items ++ flat_map (λ d. keyed_text (spec.implements_line d)) (map desc (take l.one-index l.interfaces))
