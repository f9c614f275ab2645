use Rattle.std.proofs.Common.{length}
use Rattle.dex_base.proofs.AdlerSums.{IsCompleted}
use Rattle.dex_base.proofs.adler.adler32.Given as goal

abbrev pub invariant-loop-rest : goal.invariant-loop-rest
invariant-loop-rest l = IsCompleted l.bytes l.rest l.a l.b

abbrev pub decreases-loop-rest : goal.decreases-loop-rest
decreases-loop-rest l = length l.rest
