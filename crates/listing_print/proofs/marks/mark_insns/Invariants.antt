use Rattle.std.proofs.Common.{◌≡◌, ◌++◌, ℕ, List, length, map, take}
use Rattle.std.specs.List.{flat_map}
use Rattle.program_types.specs.View.{insn}
use Rattle.program_types.specs.Formed.{insn_leads}
use Rattle.listing_print.specs.inner.Marks.{IsMarked}
use Rattle.listing_print.proofs.marks.mark_insns.Given as goal

abbrev pub invariant-loop-i : goal.invariant-loop-i
invariant-loop-i l = record {
  marked : (ns : List ℕ) → IsMarked l.fn.marks ns → IsMarked l.marks (ns ++ flat_map insn_leads (map insn (take l.i l.insns)));
  same : length l.marks ≡ length l.fn.marks;
}
