use Rattle.std.proofs.Common.{◌≡◌, ◌++◌, ℕ, List, map, take}
use Rattle.program_types.specs.View.{insn}
use Rattle.listing_print.specs.inner.Marks.{IsMarked}
use Rattle.listing_print.proofs.TextLaws.{insns_front}
use Rattle.listing_print.proofs.blocks.put_insns.Given as goal

abbrev pub invariant-loop-i : goal.invariant-loop-i
invariant-loop-i l = (ns : List ℕ) → IsMarked l.marks ns → l.out.items ≡ l.fn.out.items ++ insns_front l.form ns 0 (map insn (take l.i l.insns))
