use Rattle.std.proofs.Common.{◌∙◌, arith, rules}
use Rattle.std.proofs.lemmas.List.{take_rest}
use Rattle.dexasm_world.proofs.Passing.{stays}
use Rattle.dexasm_world.proofs.Stepping.{wrote_nothing, fronts_go_on, front_grows}
use Rattle.dexasm_world.proofs.put.put_all.Goals as goal

pub loop-done-init : goal.loop-done-init
loop-done-init g c =
    let f = g.W.World.files c.args.world.now in
    let n = g.W.File.Handle.number c.args.file.now in
    record {
      within = omega arith;
      same = λ k. search rules;
      moments = λ k. stays f _ (0, omega arith, wrote_nothing n f.now);
      wrote = λ k. wrote_nothing n f.now;
    }

pub loop-done-preserved : goal.loop-done-preserved
loop-done-preserved g c =
    let f = g.W.World.files in
    let i = c.loop-done.invariant in
    let rest = take_rest c.args.bytes.now c.loop-done.done in
    record {
      within = search rules;
      same = λ k. c.put.ensures.number k ∙ i.same k;
      moments = λ k. fronts_go_on (f c.args.world.now) _ _ _ _ c.args.bytes.now _ _ i.within rest (i.same k) (i.wrote k) (i.moments k) (c.put.ensures.moments k);
      wrote = λ k. front_grows _ _ c.args.bytes.now _ _ _ _ _ _ rest (i.same k) (i.wrote k) (c.in-Ok.ensures.wrote k);
    }

pub returns-in-Ok-2-clause-moments : goal.returns-in-Ok-2-clause-moments
returns-in-Ok-2-clause-moments g c k =
    let i = c.loop-done.invariant in
    fronts_go_on (g.W.World.files c.args.world.now) _ _ _ _ c.args.bytes.now _ _ i.within (take_rest c.args.bytes.now c.loop-done.done) (i.same k) (i.wrote k) (i.moments k) (c.put.ensures.moments k)

pub returns-in-Err-clause-moments : goal.returns-in-Err-clause-moments
returns-in-Err-clause-moments g c k =
    let i = c.loop-done.invariant in
    fronts_go_on (g.W.World.files c.args.world.now) _ _ _ _ c.args.bytes.now _ _ i.within (take_rest c.args.bytes.now c.loop-done.done) (i.same k) (i.wrote k) (i.moments k) (c.put.ensures.moments k)
