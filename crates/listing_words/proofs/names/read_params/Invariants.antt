use Rattle.std.proofs.Common.{length, map}
use Rattle.program_types.specs.View.{desc}
use Rattle.listing_words.specs.Taking.{EachTaken}
use Rattle.listing_words.specs.inner.Names.{TakesDescriptor}
use Rattle.listing_words.proofs.names.read_params.Given as goal

abbrev pub invariant-loop-n : goal.invariant-loop-n
invariant-loop-n l = EachTaken TakesDescriptor l.units (map desc l.params.items) l.rest

abbrev pub decreases-loop-n : goal.decreases-loop-n
decreases-loop-n l = length l.rest
