use Rattle.std.proofs.Common.{◌≡◌, max, drop}
use Rattle.listing_lines.specs.Needs.{most_needed}
use Rattle.listing_lines.proofs.needs.most_needed.Given as goal

abbrev pub invariant-loop-target : goal.invariant-loop-target
invariant-loop-target l = most_needed l.targets ≡ max l.most (most_needed (drop l.target-index l.targets))
