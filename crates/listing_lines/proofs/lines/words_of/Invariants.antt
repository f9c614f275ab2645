use Rattle.std.proofs.Common.{◌≡◌, map, take}
use Rattle.listing_slots.specs.inner.View.{datum}
use Rattle.listing_slots.specs.Data.{word_of}
use Rattle.listing_lines.proofs.lines.words_of.Given as goal

abbrev pub invariant-loop-i : goal.invariant-loop-i
invariant-loop-i l = l.numbers.items ≡ map word_of (map datum (take l.i l.word_values))
