use Rattle.std.proofs.Common.{◌≡◌, ◌≤◌, take}
use Rattle.std.specs.Str.Parse.{AllDigits, digits_value}
use Rattle.listing_parse.proofs.short_pieces.take_digits.Given as goal

abbrev pub invariant-loop-at : goal.invariant-loop-at
invariant-loop-at l = record {
  value : l.value ≡ digits_value 10 (take l.at l.text);
  digits : AllDigits 10 (take l.at l.text);
  small : l.value ≤ l.most;
}
