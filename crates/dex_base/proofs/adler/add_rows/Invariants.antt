use Rattle.std.proofs.Common.{◌*◌}
use Rattle.dex_base.proofs.AdlerRows.{AreColumns}
use Rattle.dex_base.proofs.adler.add_rows.Given as goal

abbrev pub invariant-loop-k : goal.invariant-loop-k
invariant-loop-k l = AreColumns l.rows (16 * l.k) l.sums l.late
