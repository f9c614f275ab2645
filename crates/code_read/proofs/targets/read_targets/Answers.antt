use Rattle.std.proofs.Common.{rules}
use Rattle.std.proofs.lemmas.Int.{to_z-of_z}
use mir.Val.{SFits}
use mir.Syntax.{w32}
use Rattle.code_read.specs.Linked.{target_number}
use Rattle.code_read.proofs.TargetLaws.{leads-init, leads-turn}
use Rattle.code_read.proofs.targets.read_targets.Goals as goal

pub loop-i-init : goal.loop-i-init
loop-i-init c = leads-init (target_number c.args.starts.now c.args.base) c.args.offsets.now _ c.in_ok-all.ensures.items

pub loop-i-preserved : goal.loop-i-preserved
loop-i-preserved c =
    let fits : SFits w32 c.int_at.result = search rules in
    let e = simp to_z-of_z at c.target_number.ensures in
    rw c.in_ok-push.ensures.items (leads-turn (target_number c.args.starts.now c.args.base) c.args.offsets.now c.loop-i.all.items _ c.loop-i.i _ _ c.loop-i-test.true (rw (← c.int_at.ensures) e) c.loop-i.invariant)
