use Rattle.std.proofs.Common.{length}
use Rattle.bench.proofs.codecs.sum_of_texts.Given as goal

abbrev pub decreases-loop-arena : goal.decreases-loop-arena
decreases-loop-arena l = length l.rest
