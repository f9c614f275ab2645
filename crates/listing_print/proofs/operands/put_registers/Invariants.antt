use Rattle.std.proofs.Common.{◌≡◌, ◌++◌, map, take}
use Rattle.listing_print.specs.Operands.{operand_text, v4}
use Rattle.listing_print.proofs.operands.put_registers.Given as goal

abbrev pub invariant-loop-reg : goal.invariant-loop-reg
invariant-loop-reg l = l.out.items ≡ l.fn.out.items ++ operand_text (map v4 (take l.reg-index l.regs))
