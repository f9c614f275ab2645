use Rattle.std.proofs.Common.{◌≡◌, ◌++◌, map, drop}
use Rattle.listing_slots.specs.inner.View.{datum}
use Rattle.listing_slots.specs.Data.{int_of}
use Rattle.listing_lines.specs.Lines.{alternate}
use Rattle.listing_lines.proofs.LineLaws.{between}
use Rattle.listing_lines.proofs.lines.ints_between.Given as goal

abbrev pub invariant-loop-i : goal.invariant-loop-i
invariant-loop-i l = map int_of (alternate (map datum l.word_values)) ≡ l.numbers.items ++ map int_of (between l.is_due (map datum (drop l.i l.word_values)))
