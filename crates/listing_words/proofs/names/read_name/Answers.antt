use Rattle.std.proofs.Common.{rules}
use Rattle.listing_words.specs.Names.{TakesNameUnit}
use Rattle.listing_words.proofs.TakingLaws.{Each-push}
use Rattle.listing_words.proofs.NameLaws.{units_none}
use Rattle.listing_words.proofs.names.read_name.Goals as goal

pub loop-unit-preserved : goal.loop-unit-preserved
loop-unit-preserved c = rw c.in_ok-push.ensures.items (Each-push TakesNameUnit _ _ _ _ _ c.loop-unit.invariant c.in-Some.ensures.found)

pub returns-clause-none : goal.returns-clause-none
returns-clause-none c = units_none c.args.word.now _ _ c.loop-unit.invariant (search rules) (search rules)
