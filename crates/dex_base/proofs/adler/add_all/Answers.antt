use Rattle.std.proofs.Common.{add-zero, arith}
use Rattle.dex_base.proofs.AdlerRows.{summed_rows}
use Rattle.dex_base.proofs.AdlerSums.{summed_more}
use Rattle.dex_base.proofs.adler.add_all.Goals as goal

pub loop-byte-init : goal.loop-byte-init
loop-byte-init c =
    let r = c.requires in
    let sums = c.add_rows-sums.ensures in
    rw add-zero (summed_rows _ _ _ _ _ _ _ c.split_at.ensures.front (omega arith) r.short r.a_small r.b_small sums.a sums.b c.type_inv.bytes)

pub loop-byte-preserved : goal.loop-byte-preserved
loop-byte-preserved c =
    summed_more _ _ _ _ _ _ _ _ _ c.loop-byte.invariant c.split_at.ensures.back c.loop-byte-test.true (omega arith) c.from.ensures (c.type_inv.bytes _).fits
