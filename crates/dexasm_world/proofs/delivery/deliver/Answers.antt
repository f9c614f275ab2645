use Rattle.std.proofs.Common.{◌≡◌, inl, true, sym, subst}
use Rattle.std.proofs.lemmas.Result.{on_ok_weaker}
use Rattle.dexasm_world.specs.State.{Path}
use Rattle.dexasm_world.specs.inner.FileKinds.{IsLinkTarget}
use Rattle.dexasm_world.proofs.Leading.{cause_at_link, untouched, through_link, delivered_at_link, over_delivered, no_space_nowhere}
use Rattle.dexasm_world.proofs.Leaving.{leaves_at_link, leaves_tidy}
use Rattle.dexasm_world.proofs.delivery.deliver.Goals as goal

pub returns-in-Ok-kind_of : goal.returns-in-Ok-kind_of
returns-in-Ok-kind_of g c =
    let f = g.W.World.files c.args.world.now in
    let d = g.W.World.files c.deliver_over.new.world in
    let out = c.args.out.now in
    let path = c.as_str-path.result.now in
    let answer = c.args.answer.now in
    let link = λ (k : g.W.World.is_known ≡ true). rw c.in-Ok-Link.field-0-is at (c.in-Ok-Link.ensures k) in
    let t = λ (k : g.W.World.is_known ≡ true). subst (λ (x : Path). IsLinkTarget f out x) (sym c.as_str-path.ensures.value) (c.in-Ok-target.ensures k) in
    record {
      moments = λ k. through_link f d out path answer (link k) (t k) (c.deliver_over.ensures.moments k);
      done = λ k. on_ok_weaker c.deliver_over.result (delivered_at_link f out path answer d.now (link k) (t k)) (c.deliver_over.ensures.done k);
      cause = λ k. cause_at_link f d out path c.deliver_over.result (link k) (t k) (c.deliver_over.ensures.cause k);
      left = λ k. leaves_at_link f d out path answer c.deliver_over.result (link k) (t k) (c.deliver_over.ensures.left k);
    }

pub returns-in-Ok-Link-clause-moments : goal.returns-in-Ok-Link-clause-moments
returns-in-Ok-Link-clause-moments g c k = untouched (g.W.World.files c.args.world.now) c.args.out.now c.args.answer.now

pub returns-clause-moments : goal.returns-clause-moments
returns-clause-moments g c k = untouched (g.W.World.files c.args.world.now) c.args.out.now c.args.answer.now

pub returns-in-Ok-target-clause-moments : goal.returns-in-Ok-target-clause-moments
returns-in-Ok-target-clause-moments g c k = untouched (g.W.World.files c.args.world.now) c.args.out.now c.args.answer.now

pub returns-in-Err-Missing-target-clause-done : goal.returns-in-Err-Missing-target-clause-done
returns-in-Err-Missing-target-clause-done g c k =
    let f = g.W.World.files c.args.world.now in
    let link = rw c.in-Ok-Link.field-0-is at (c.in-Ok-Link.ensures k) in
    let nowhere = rw c.in-Err-Missing-target.field-0-is at (c.in-Err-Missing-target.ensures k) in
    on_ok_weaker c.overwrite.result (over_delivered f c.args.out.now c.args.answer.now (g.W.World.files c.overwrite.new.world).now (no_space_nowhere f c.args.out.now link nowhere) (c.overwrite.ensures.moments k).last) (c.overwrite.ensures.done k)

pub returns-in-Err-Missing-target-clause-left : goal.returns-in-Err-Missing-target-clause-left
returns-in-Err-Missing-target-clause-left g c k =
    leaves_tidy (g.W.World.files c.args.world.now) (g.W.World.files c.overwrite.new.world) c.args.out.now c.args.answer.now c.overwrite.result (inl (c.overwrite.ensures.moments k).last.names)
