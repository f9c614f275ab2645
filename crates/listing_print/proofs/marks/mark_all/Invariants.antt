use Rattle.std.proofs.Common.{◌≡◌, ◌++◌, ℕ, List, length, take}
use Rattle.listing_print.specs.inner.Marks.{IsMarked}
use Rattle.listing_print.proofs.marks.mark_all.Given as goal

abbrev pub invariant-loop-i : goal.invariant-loop-i
invariant-loop-i l = record {
  marked : (ns : List ℕ) → IsMarked l.fn.marks ns → IsMarked l.marks (ns ++ take l.i l.numbers);
  same : length l.marks ≡ length l.fn.marks;
}
