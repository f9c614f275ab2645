use Rattle.std.proofs.Common.{◌≡◌, ◌<◌, ◌≤◌, ◌+◌, length, get_or, refl, arith, rules, false}
use Rattle.code_align.proofs.PadLaws.{moved-none, moved-more, moved-all, end-is}
use Rattle.code_align.proofs.pads.numbers_of.Goals as goal

pub loop-k-init : goal.loop-k-init
loop-k-init c = moved-none c.args.pads.now c.in_ok-all.all.items c.in_ok-all.ensures.items

pub loop-k-preserved : goal.loop-k-preserved
loop-k-preserved c =
    moved-more c.args.pads.now c.loop-k.k c.loop-k.all.items c.push.new.self.items c.loop-k.nops c.with_nop-nops.result (c.loop-k.k + c.with_nop-nops.result) (get_or c.args.pads.now c.loop-k.k false)
    c.loop-k-test.true refl c.with_nop-nops.ensures refl c.loop-k.invariant c.in_ok-push.ensures.items

pub returns-then-end-gt2147483647-clause-err : goal.returns-then-end-gt2147483647-clause-err
returns-then-end-gt2147483647-clause-err c = λ ne.
    let k : c.loop-k.k ≡ length c.args.pads.now = omega arith in
    let z = end-is c.args.pads.now c.loop-k.all.items c.loop-k.nops c.loop-k.k k c.loop-k.invariant in
    let l : 2147483647 < length c.args.pads.now + c.loop-k.nops = search rules in
    rw c.at.ensures ((refl, omega arith))

pub returns-clause-ok : goal.returns-clause-ok
returns-clause-ok c =
    let k : c.loop-k.k ≡ length c.args.pads.now = omega arith in
    moved-all c.args.pads.now c.loop-k.all.items c.push-2.new.self.items c.loop-k.nops (length c.args.pads.now + c.loop-k.nops) c.loop-k.k k c.loop-k.invariant refl c.in_ok-push-2.ensures.items

pub returns-clause-few : goal.returns-clause-few
returns-clause-few c =
    let k : c.loop-k.k ≡ length c.args.pads.now = omega arith in
    let z = end-is c.args.pads.now c.loop-k.all.items c.loop-k.nops c.loop-k.k k c.loop-k.invariant in
    let l : length c.args.pads.now + c.loop-k.nops ≤ 2147483647 = search rules in
    omega arith
