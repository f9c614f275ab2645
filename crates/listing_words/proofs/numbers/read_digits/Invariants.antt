use Rattle.std.proofs.Common.{◌≡◌, ◌≤◌, take}
use Rattle.std.specs.Str.Parse.{AllDigits, digits_value}
use Rattle.listing_words.proofs.numbers.read_digits.Given as goal

abbrev pub invariant-loop-c : goal.invariant-loop-c
invariant-loop-c l = record {
  value : l.value ≡ digits_value l.radix (take l.c-index l.digits);
  digits : AllDigits l.radix (take l.c-index l.digits);
  most : l.value ≤ l.most;
}
