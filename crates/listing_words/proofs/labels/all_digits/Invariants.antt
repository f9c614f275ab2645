use Rattle.std.proofs.Common.{◌≡◌, drop, ltb}
use Rattle.std.specs.List.{list_all}
use Rattle.std.specs.Char.{digit_value}
use Rattle.listing_words.proofs.labels.all_digits.Given as goal

abbrev pub invariant-loop-c : goal.invariant-loop-c
invariant-loop-c l = list_all (λ c. ltb (digit_value c) l.radix) l.word ≡ list_all (λ c. ltb (digit_value c) l.radix) (drop l.c-index l.word)
