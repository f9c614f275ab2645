use Rattle.std.proofs.Common.{length}
use Rattle.listing_words.specs.Taking.{EachTaken}
use Rattle.listing_words.specs.Names.{TakesNameUnit}
use Rattle.listing_words.proofs.names.read_name.Given as goal

abbrev pub invariant-loop-unit : goal.invariant-loop-unit
invariant-loop-unit l = EachTaken TakesNameUnit l.word l.units.items l.rest

abbrev pub decreases-loop-unit : goal.decreases-loop-unit
decreases-loop-unit l = length l.rest
