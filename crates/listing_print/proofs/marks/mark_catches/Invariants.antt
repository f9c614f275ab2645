use Rattle.std.proofs.Common.{◌≡◌, ◌++◌, ℕ, List, length, map, take}
use Rattle.program_types.specs.Content.{Catch}
use Rattle.program_types.specs.View.{catch}
use Rattle.listing_print.specs.inner.Marks.{IsMarked}
use Rattle.listing_print.proofs.marks.mark_catches.Given as goal

abbrev pub invariant-loop-i : goal.invariant-loop-i
invariant-loop-i l = record {
  marked : (ns : List ℕ) → IsMarked l.fn.marks ns → IsMarked l.marks (ns ++ map (λ (c : Catch). c.at) (map catch (take l.i l.catches)));
  same : length l.marks ≡ length l.fn.marks;
}
