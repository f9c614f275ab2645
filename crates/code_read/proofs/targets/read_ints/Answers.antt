use Rattle.std.proofs.Common.{rules}
use Rattle.std.proofs.lemmas.Int.{to_z-of_z}
use mir.Val.{SFits}
use mir.Syntax.{w32}
use Rattle.code_read.proofs.TargetLaws.{ints-init, ints-turn}
use Rattle.code_read.proofs.targets.read_ints.Goals as goal

pub loop-i-init : goal.loop-i-init
loop-i-init c = ints-init c.args.bytes.now c.args.bytes.now _ c.in_ok-all.ensures.items

pub loop-i-preserved : goal.loop-i-preserved
loop-i-preserved c =
    let fits : SFits w32 c.int_at.result = search rules in
    rw c.in_ok-push.ensures.items (simp to_z-of_z (ints-turn c.args.bytes.now c.loop-i.all.items _ c.loop-i.i _ c.int_at.result c.loop-i-test.true c.int_at.ensures c.loop-i.invariant))
