use Rattle.std.proofs.Common.{ℕ, ◌<◌, get_or}
use Rattle.listing_words.specs.inner.Runs.{IsOf}
use Rattle.listing_words.proofs.runs.short_run.Given as goal

abbrev pub invariant-loop-at : goal.invariant-loop-at
invariant-loop-at l = (k : ℕ) → k < l.at → IsOf l.kind.first l.kind.count (get_or l.text k 0)
