use Rattle.dexasm_world.proofs.States.{begins, touches_on}
use Rattle.dexasm_world.proofs.Overwriting.{over_begun, over_put, over_kept}
use Rattle.dexasm_world.proofs.delivery.overwrite.Goals as goal

pub returns-in_err-put_all-clause-moments : goal.returns-in_err-put_all-clause-moments
returns-in_err-put_all-clause-moments g c k =
    let f = g.W.World.files c.args.world.now in
    over_put f _ _ _ _ c.args.answer.now (over_begun f _ _ (c.begin.ensures.moments k)) (begins _ _ _ _ (c.in_ok-file.ensures.begun k)) (c.put_all.ensures.moments k)

pub returns-then-keeps-clause-moments : goal.returns-then-keeps-clause-moments
returns-then-keeps-clause-moments g c k =
    let f = g.W.World.files c.args.world.now in
    let at = begins _ _ _ _ (c.in_ok-file.ensures.begun k) in
    let put = over_put f _ _ _ _ c.args.answer.now (over_begun f _ _ (c.begin.ensures.moments k)) at (c.put_all.ensures.moments k) in
    over_kept f _ _ _ _ _ put (touches_on _ _ _ _ _ at (c.in_ok-put_all.ensures.all k).only) (c.put_all.ensures.number k) (c.keep.ensures.moments k)

pub returns-clause-moments : goal.returns-clause-moments
returns-clause-moments g c k =
    let f = g.W.World.files c.args.world.now in
    over_put f _ _ _ _ c.args.answer.now (over_begun f _ _ (c.begin.ensures.moments k)) (begins _ _ _ _ (c.in_ok-file.ensures.begun k)) (c.put_all.ensures.moments k)
