use Rattle.std.proofs.Common.{◌≡◌, drop}
use Rattle.listing_words.specs.Words.{after_spaces}
use Rattle.listing_lines.proofs.pieces.is_skipped.Given as goal

abbrev pub invariant-loop-i : goal.invariant-loop-i
invariant-loop-i l = after_spaces l.line ≡ after_spaces (drop l.i l.line)
