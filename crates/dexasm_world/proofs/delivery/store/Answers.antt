use Rattle.std.proofs.Common.{◌∙◌}
use Rattle.dexasm_world.proofs.Storing.{dressing, stored_at, stored_at_once, stored_and_kept}
use Rattle.dexasm_world.proofs.delivery.store.Goals as goal

pub returns-in_err-dress-in-Some-clause-moments : goal.returns-in_err-dress-in-Some-clause-moments
returns-in_err-dress-in-Some-clause-moments g c k = dressing _ _ _ _ c.in-Some.dress c.in-Some.is (c.dress.ensures.moments k)

pub returns-in_err-put_all-in-Some-clause-moments : goal.returns-in_err-put_all-in-Some-clause-moments
returns-in_err-put_all-in-Some-clause-moments g c k =
    stored_at _ _ _ _ _ c.in-Some.dress c.args.answer.now c.in-Some.is (dressing _ _ _ _ c.in-Some.dress c.in-Some.is (c.dress.ensures.moments k)) (c.in_ok-dress-in-Some.ensures.dressed k).has (c.put_all.ensures.moments k)

pub returns-in_ok-put_all-in-Some-clause-moments : goal.returns-in_ok-put_all-in-Some-clause-moments
returns-in_ok-put_all-in-Some-clause-moments g c k =
    let dressed = (c.in_ok-dress-in-Some.ensures.dressed k).has in
    stored_and_kept _ _ _ _ _ _ c.in-Some.dress c.in-Some.is
    (stored_at _ _ _ _ _ c.in-Some.dress c.args.answer.now c.in-Some.is (dressing _ _ _ _ c.in-Some.dress c.in-Some.is (c.dress.ensures.moments k)) dressed (c.put_all.ensures.moments k))
    ((c.in_ok-put_all-in-Some.ensures.all k).mode ∙ dressed) (c.put_all.ensures.number k) (c.keep.ensures.moments k)

pub returns-in-None-clause-moments : goal.returns-in-None-clause-moments
returns-in-None-clause-moments g c k = stored_at_once _ _ _ _ c.args.answer.now c.in-None.is (c.put_all-in-None.ensures.moments k)
