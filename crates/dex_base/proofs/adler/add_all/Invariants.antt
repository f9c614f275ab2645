use Rattle.std.proofs.Common.{◌+◌, ◌*◌, ◌/◌, length}
use Rattle.dex_base.proofs.AdlerSums.{IsSummed}
use Rattle.dex_base.proofs.adler.add_all.Given as goal

abbrev pub invariant-loop-byte : goal.invariant-loop-byte
invariant-loop-byte l = IsSummed l.fn.a l.fn.b l.bytes (length l.bytes / 16 * 16 + l.byte-index) l.sums.a l.sums.b
