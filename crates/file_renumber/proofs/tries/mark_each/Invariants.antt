use Rattle.std.proofs.Common.{◌*◌, ◌≤◌}
use Rattle.file_renumber.specs.inner.TryWalks.{ListedTries}
use Rattle.file_renumber.proofs.TryLemmas.{MarkedTries}
use Rattle.file_renumber.proofs.tries.mark_each.Given as goal

abbrev pub invariant-loop-i : goal.invariant-loop-i
invariant-loop-i l = record {
  marked : (x : ListedTries l.sections l.item l.list) → MarkedTries l.sections l.item.items.now l.list.offsets.items l.fn.marks l.marks l.seen l.catches l.i x.all.tries;
  low : l.catches ≤ 4294967295 * l.i;
}
