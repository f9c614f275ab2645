use Rattle.std.proofs.Common.{◌≡◌, ◌++◌, map, take}
use Rattle.listing_print.specs.Operands.{operand_text_in, to}
use Rattle.listing_print.proofs.operands.put_targets.Given as goal

abbrev pub invariant-loop-target : goal.invariant-loop-target
invariant-loop-target l = l.out.items ≡ l.fn.out.items ++ operand_text_in l.form (map to (take l.target-index l.targets))
