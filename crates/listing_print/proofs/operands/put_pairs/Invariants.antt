use Rattle.std.proofs.Common.{◌≡◌, ◌++◌, take}
use Rattle.listing_print.specs.Operands.{operand_text_in, pair_operands}
use Rattle.listing_print.proofs.operands.put_pairs.Given as goal

abbrev pub invariant-loop-i : goal.invariant-loop-i
invariant-loop-i l = l.out.items ≡ l.fn.out.items ++ operand_text_in l.form (pair_operands (take l.i l.keys) (take l.i l.targets))
