use Rattle.std.proofs.Common.{◌≡◌, ◌≤◌, ◌+◌, ◌++◌, ℕ, List, length}
use Rattle.listing_lines.specs.Splitting.{lines}
use Rattle.listing_parse.specs.inner.Named.{ReadingIsNamed}
use Rattle.listing_parse.specs.Text.{begin, Reads}
use Rattle.listing_parse.specs.inner.ReadingView.{reading}
use Rattle.listing_parse.proofs.listing.read_lines.Given as goal

abbrev pub invariant-loop-line : goal.invariant-loop-line
invariant-loop-line l = (before : List (List ℕ)) × (lines l.text ≡ before ++ lines l.rest) × (l.listing.draft.lines ≡ length before) × Reads begin before (lines l.rest) (reading l.listing) × (l.listing.draft.lines + length l.rest ≤ length l.text) × ReadingIsNamed l.scratch.spelled (reading l.listing)

abbrev pub decreases-loop-line : goal.decreases-loop-line
decreases-loop-line l = length l.rest
