use Rattle.std.proofs.Common.{◌≡◌, ◌≤◌, ◌+◌, [], length}
use Rattle.listing_lines.specs.Splitting.{lines}
use Rattle.listing_lines.specs.Labels.{labels_ahead}
use Rattle.listing_lines.specs.inner.Labels.{insns_ahead}
use Rattle.listing_lines.proofs.labels.look_ahead.Given as goal

abbrev pub invariant-loop-next : goal.invariant-loop-next
invariant-loop-next l = record {
  ahead : labels_ahead [] l.first 0 (lines l.text) ≡ labels_ahead l.labels l.line l.number (lines l.rest);
  count : insns_ahead (lines l.text) ≡ l.number + insns_ahead (lines l.rest);
  line : l.line + length l.rest ≤ l.first + length l.text;
  number : l.number + length l.rest ≤ length l.text;
}

abbrev pub decreases-loop-next : goal.decreases-loop-next
decreases-loop-next l = length l.rest
