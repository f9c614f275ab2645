use Rattle.std.proofs.Common.{◌+◌, ◌*◌, arith}
use Rattle.listing_words.proofs.PlainLaws.{run_cut}
use Rattle.listing_words.proofs.plain.put_eights.Goals as goal

pub loop-i-preserved : goal.loop-i-preserved
loop-i-preserved c =
    run_cut c.args.least 8 (8 * c.loop-i.i) (8 * (c.loop-i.i + 1)) c.args.units.now c.args.out.now.items c.loop-i.out.items c.put_eight.new.out.items c.split_at.result.1.now c.split_at-in-loop-i.result.0.now c.in_ok-put_eight.field-0
    (omega arith) c.split_at.ensures.back c.split_at-in-loop-i.ensures.front c.if-not-branch.false (omega (arith, c.loop-i-test.true)) c.loop-i.invariant c.in_ok-put_eight.ensures.ok
