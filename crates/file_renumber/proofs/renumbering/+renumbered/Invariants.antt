use Rattle.std.proofs.Common.{◌+◌, ◌*◌, ◌≤◌, length}
use Rattle.file_renumber.specs.inner.ValueWalks.{CarriedValues}
use Rattle.file_renumber.proofs.CarryLemmas.{Renumbered}
use Rattle.file_renumber.proofs.renumbering.+renumbered.Given as goal

abbrev pub decreases-renumber_value : goal.decreases-renumber_value
decreases-renumber_value l = 2 * length l.bytes.now

abbrev pub decreases-renumber_values : goal.decreases-renumber_values
decreases-renumber_values l = 2 * length l.bytes.now + 1

abbrev pub invariant-renumber_values-loop-turn : goal.invariant-renumber_values-loop-turn
invariant-renumber_values-loop-turn l = record {
  renumbered : (x : CarriedValues l.numbers l.count l.bytes) → Renumbered x.file x.names l.fn.out.items l.out.items l.left l._turn x.all x.rest;
  short : length l.left ≤ length l.bytes;
}
