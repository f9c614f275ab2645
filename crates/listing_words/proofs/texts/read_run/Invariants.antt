use Rattle.std.proofs.Common.{◌≤◌, length}
use Rattle.listing_words.specs.Taking.{EachTaken}
use Rattle.listing_words.specs.Texts.{TakesUnit}
use Rattle.listing_words.proofs.texts.read_run.Given as goal

abbrev pub invariant-loop-unit : goal.invariant-loop-unit
invariant-loop-unit l = record { run : EachTaken TakesUnit l.text l.units.items l.rest; within : length l.rest ≤ length l.text }

abbrev pub decreases-loop-unit : goal.decreases-loop-unit
decreases-loop-unit l = length l.rest
