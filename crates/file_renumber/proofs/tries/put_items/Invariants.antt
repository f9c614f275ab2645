use Rattle.std.proofs.Common.{◌≡◌, ◌++◌, ◌<◌, ℕ, List, drop, get_or}
use Rattle.program_types.specs.Content.{Try}
use Rattle.code_write.specs.Packs.{items_bytes}
use Rattle.file_renumber.specs.inner.TryWalks.{CoverTries}
use Rattle.file_renumber.proofs.tries.put_items.Given as goal

abbrev pub invariant-loop-i : goal.invariant-loop-i
invariant-loop-i l = record {
  done : (ts : List Try) → CoverTries l.starts l.item.items.now l.item.tries ts
      → l.out.items ++ items_bytes l.item.size l.starts (drop l.i ts) (drop l.i l.offsets) ≡ l.fn.out.items ++ items_bytes l.item.size l.starts ts l.offsets;
  near : (k : ℕ) → k < l.i → get_or l.offsets k 0 < 65536;
}
