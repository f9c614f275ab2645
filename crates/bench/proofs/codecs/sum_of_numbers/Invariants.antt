use Rattle.std.proofs.Common.{length}
use Rattle.bench.proofs.codecs.sum_of_numbers.Given as goal

abbrev pub decreases-loop-number : goal.decreases-loop-number
decreases-loop-number l = length l.rest
