use Rattle.std.proofs.Common.{inl, subst, Ok}
use Rattle.std.proofs.lemmas.Result.{on_ok_weaker}
use Rattle.dexasm_world.specs.inner.FileKinds.{HasKind}
use Rattle.dexasm_world.specs.declared.world.FileKind.{FileKind}
use Rattle.dexasm_world.proofs.Leading.{over_delivered, no_space_at_device, untouched}
use Rattle.dexasm_world.proofs.Leaving.{leaves_tidy}
use Rattle.dexasm_world.proofs.delivery.deliver_over.Goals as goal

pub returns-in-Device-clause-done : goal.returns-in-Device-clause-done
returns-in-Device-clause-done g c k =
    let f = g.W.World.files c.args.world.now in
    let device = subst (λ (l : FileKind). HasKind f c.args.path.now (Ok l)) c.in-Device.is (c.requires.kind_of k) in
    on_ok_weaker c.overwrite.result (over_delivered f c.args.path.now c.args.answer.now (g.W.World.files c.overwrite.new.world).now (no_space_at_device f c.args.path.now device.1) (c.overwrite.ensures.moments k).last) (c.overwrite.ensures.done k)

pub returns-in-Device-clause-left : goal.returns-in-Device-clause-left
returns-in-Device-clause-left g c k =
    leaves_tidy (g.W.World.files c.args.world.now) (g.W.World.files c.overwrite.new.world) c.args.path.now c.args.answer.now c.overwrite.result (inl (c.overwrite.ensures.moments k).last.names)

pub returns-else-may_write-clause-moments : goal.returns-else-may_write-clause-moments
returns-else-may_write-clause-moments g c k = untouched (g.W.World.files c.args.world.now) c.args.path.now c.args.answer.now

pub returns-else-may_write-2-clause-moments : goal.returns-else-may_write-2-clause-moments
returns-else-may_write-2-clause-moments g c k = untouched (g.W.World.files c.args.world.now) c.args.path.now c.args.answer.now
