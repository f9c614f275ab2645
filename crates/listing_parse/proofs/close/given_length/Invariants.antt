use Rattle.std.proofs.Common.{◌≡◌, ◌≤◌, map, drop}
use Rattle.listing_parse.specs.Members.{given_length}
use Rattle.listing_parse.specs.inner.View.{given}
use Rattle.listing_parse.proofs.CloseLaws.{ends_at}
use Rattle.listing_parse.proofs.close.given_length.Given as goal

abbrev pub invariant-loop-i : goal.invariant-loop-i
invariant-loop-i l = record {
  length : given_length (map given l.all) ≡ ends_at l.n l.i (given_length (map given (drop l.i l.all)));
  few : l.n ≤ l.i;
}
