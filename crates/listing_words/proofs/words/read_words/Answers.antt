use Rattle.listing_words.specs.Words.{TakesWord}
use Rattle.listing_words.proofs.TakingLaws.{Each-push}
use Rattle.listing_words.proofs.WordLaws.{words_end, said_push}
use Rattle.listing_words.proofs.words.read_words.Goals as goal

pub loop-next-preserved : goal.loop-next-preserved
loop-next-preserved c = rw (c.in_ok-push.ensures.items, said_push c.loop-next.words.items c.in-Some.next) (Each-push TakesWord _ _ _ _ _ c.loop-next.invariant (rw c.in-Some.is at c.in_ok-next.ensures.found))

pub returns-clause-read : goal.returns-clause-read
returns-clause-read c = words_end c.args.line.now _ _ _ _ c.loop-next.invariant (rw c.in_default.is at c.in_ok-next.ensures.none) c.after_spaces.ensures.rest c.is_empty.ensures
