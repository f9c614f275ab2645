use Rattle.std.proofs.Common.{arith}
use Rattle.std.proofs.lemmas.Int.{ints, to_z-of_z}
use Rattle.dex_base.proofs.Signed.{signed_put}
use Rattle.dex_base.proofs.leb128.put_sleb.Goals as goal

pub returns-clause-ok : goal.returns-clause-ok
returns-clause-ok c =
    let fits = c.ranges.n in
    let width = simp to_z-of_z at c.sleb_width-width.ensures in
    signed_put _ _ _ _ c.args.n width (omega (arith, ints)) (omega (arith, ints)) c.in_ok-put_sequence.ensures.ok
