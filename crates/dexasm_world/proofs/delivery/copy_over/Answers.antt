use Rattle.std.proofs.Common.{inr}
use Rattle.dexasm_world.proofs.Copying.{copying, copied, answer_beside}
use Rattle.dexasm_world.proofs.Leaving.{gone_since}
use Rattle.dexasm_world.proofs.delivery.copy_over.Goals as goal

pub returns-in-Ok-clause-moments : goal.returns-in-Ok-clause-moments
returns-in-Ok-clause-moments g c k =
    copied _ _ _ c.args.part.now c.args.path.now c.args.answer.now (c.requires k) (c.overwrite.ensures.moments k) (c.in-Ok.ensures.done k) (c.remove.ensures.moments k)

pub returns-in-Err-clause-moments : goal.returns-in-Err-clause-moments
returns-in-Err-clause-moments g c k =
    copying _ _ c.args.part.now c.args.path.now c.args.answer.now (c.requires k) (c.overwrite.ensures.moments k)

pub returns-in-Ok-clause-left : goal.returns-in-Ok-clause-left
returns-in-Ok-clause-left g c k =
    gone_since _ _ (g.W.World.files c.remove.new.self) _ c.args.part.now c.remove.result (c.overwrite.ensures.moments k) (c.requires k).stands.part_plain (c.remove.ensures.removed k) (c.remove.ensures.left k)

pub returns-in-Err-clause-left : goal.returns-in-Err-clause-left
returns-in-Err-clause-left g c k =
    let f = g.W.World.files c.args.world.now in
    let b = g.W.World.files c.overwrite.new.world in
    inr (answer_beside f c.args.part.now c.args.path.now c.args.answer.now b.now (c.requires k) (c.overwrite.ensures.moments k).last, λ never. never)
