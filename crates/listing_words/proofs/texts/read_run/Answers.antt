use Rattle.std.proofs.Common.{arith}
use Rattle.listing_words.specs.Texts.{TakesUnit}
use Rattle.listing_words.proofs.TakingLaws.{Each-push}
use Rattle.listing_words.proofs.texts.read_run.Goals as goal

pub loop-unit-preserved : goal.loop-unit-preserved
loop-unit-preserved c = record {
  run = rw c.in_ok-push.ensures.items (Each-push TakesUnit _ _ _ _ _ c.loop-unit.invariant.run c.in-Some.ensures.found);
  within = omega (arith, c.loop-unit.invariant.within, c.in-Some.ensures.shorter);
}
