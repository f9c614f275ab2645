use Rattle.std.proofs.Common.{◌≡◌, ◌++◌, map, take}
use Rattle.std.specs.List.{flat_map}
use Rattle.program_types.specs.View.{member}
use Rattle.listing_lines.specs.Lines as spec
use Rattle.listing_print.specs.Printed.{keyed_text}
use Rattle.listing_print.proofs.blocks.put_instances.Given as goal

abbrev pub invariant-loop-one : goal.invariant-loop-one
invariant-loop-one l = l.out.items ≡ l.fn.out.items ++ flat_map (λ m. keyed_text (spec.instance_line m)) (map member (take l.one-index l.fields))
