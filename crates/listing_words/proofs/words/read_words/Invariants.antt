use Rattle.std.proofs.Common.{length, map}
use Rattle.listing_words.specs.Taking.{EachTaken}
use Rattle.listing_words.specs.Words.{TakesWord}
use Rattle.listing_words.specs.inner.View.{word}
use Rattle.listing_words.proofs.words.read_words.Given as goal

abbrev pub invariant-loop-next : goal.invariant-loop-next
invariant-loop-next l = EachTaken TakesWord l.line (map word l.words.items) l.rest

abbrev pub decreases-loop-next : goal.decreases-loop-next
decreases-loop-next l = length l.rest
