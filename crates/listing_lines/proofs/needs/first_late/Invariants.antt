use Rattle.std.proofs.Common.{◌≡◌, map, drop}
use Rattle.listing_lines.specs.Needs.{first_late}
use Rattle.listing_lines.specs.inner.NeedView.{need}
use Rattle.listing_lines.proofs.needs.first_late.Given as goal

abbrev pub invariant-loop-one : goal.invariant-loop-one
invariant-loop-one l = first_late l.count (map need l.needs) ≡ first_late l.count (map need (drop l.one-index l.needs))
