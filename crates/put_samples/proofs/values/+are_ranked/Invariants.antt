use Rattle.std.proofs.Common.{length}
use Rattle.put_samples.proofs.values.+are_ranked.Given as goal

abbrev pub decreases-are_ranked : goal.decreases-are_ranked
decreases-are_ranked l = length l.all.now
