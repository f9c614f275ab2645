use Rattle.std.proofs.Common.{◌≡◌, ◌++◌, take, drop}
use Rattle.listing_words.specs.Words.{up_to_space}
use Rattle.listing_lines.proofs.labels.up_to_space.Given as goal

abbrev pub invariant-loop-end : goal.invariant-loop-end
invariant-loop-end l = up_to_space l.text ≡ take l.end l.text ++ up_to_space (drop l.end l.text)
