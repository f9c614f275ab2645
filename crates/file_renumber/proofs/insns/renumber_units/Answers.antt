use Rattle.std.proofs.Common.{◌≡◌, ◌/◌, ◌*◌, ℕ, List, length, subst, ◌∙◌, arith}
use Rattle.file_renumber.specs.inner.InPlace.{IsRenumbered}
use Rattle.file_renumber.proofs.WrittenLemmas.{put_back, next_in, can_next, written_start, written_left, written_more, written_end, written_fit}
use Rattle.file_renumber.proofs.insns.renumber_units.Goals as goal
use Rattle.dex_base.proofs.ListFacts.{rest_is}

pub loop-at-init : goal.loop-at-init
loop-at-init c = record { written = written_start c.args.numbers.now c.args.units.now; inside = omega arith }

pub renumber_front-requires : goal.renumber_front-requires
renumber_front-requires c =
    let x = c.requires.insns in
    let w = c.loop-at.invariant.written in
    let n = next_in c.args.units.now _ w.before x.0 c.loop-at.at (rest_is (2 * c.loop-at.at) c.loop-at.units ∙ written_left c.args.numbers.now c.args.units.now c.loop-at.units c.loop-at.at w) w.run x.1 c.loop-at-test.true in
    (n.one, n.front, can_next c.args.numbers.now c.args.units.now w.before x.0 c.loop-at.at n.one w.run x.1 x.2 c.loop-at-test.true n.stands)

pub overflow_add-at : goal.overflow_add-at
overflow_add-at c =
    let x = c.requires.insns in
    let w = c.loop-at.invariant.written in
    let n = next_in c.args.units.now _ w.before x.0 c.loop-at.at (rest_is (2 * c.loop-at.at) c.loop-at.units ∙ written_left c.args.numbers.now c.args.units.now c.loop-at.units c.loop-at.at w) w.run x.1 c.loop-at-test.true in
    let r = c.renumber_front.ensures n.one n.front (can_next c.args.numbers.now c.args.units.now w.before x.0 c.loop-at.at n.one w.run x.1 x.2 c.loop-at-test.true n.stands) in
    let there = n.there in let size = r.size in let short = c.requires.short in
    omega (arith, there, size, short)

pub loop-at-smaller : goal.loop-at-smaller
loop-at-smaller c =
    let x = c.requires.insns in
    let w = c.loop-at.invariant.written in
    let n = next_in c.args.units.now _ w.before x.0 c.loop-at.at (rest_is (2 * c.loop-at.at) c.loop-at.units ∙ written_left c.args.numbers.now c.args.units.now c.loop-at.units c.loop-at.at w) w.run x.1 c.loop-at-test.true in
    let r = c.renumber_front.ensures n.one n.front (can_next c.args.numbers.now c.args.units.now w.before x.0 c.loop-at.at n.one w.run x.1 x.2 c.loop-at-test.true n.stands) in
    let some = n.some in let size = r.size in let test = c.loop-at-test.true in
    omega (arith, some, size, test)

pub loop-at-preserved : goal.loop-at-preserved
loop-at-preserved c =
    let x = c.requires.insns in
    let w = c.loop-at.invariant.written in
    let left = rest_is (2 * c.loop-at.at) c.loop-at.units ∙ written_left c.args.numbers.now c.args.units.now c.loop-at.units c.loop-at.at w in
    let n = next_in c.args.units.now _ w.before x.0 c.loop-at.at left w.run x.1 c.loop-at-test.true in
    let r = c.renumber_front.ensures n.one n.front (can_next c.args.numbers.now c.args.units.now w.before x.0 c.loop-at.at n.one w.run x.1 x.2 c.loop-at-test.true n.stands) in
    let there = n.there in let size = r.size in
    record {
      written = written_more c.args.numbers.now c.args.units.now c.loop-at.units _ c.renumber_front.new.front c.loop-at.at c.renumber_front.result n.one w n.stands
          (subst (λ (z : List ℕ). IsRenumbered c.args.numbers.now z c.renumber_front.new.front c.renumber_front.result n.one) left r) (put_back c.loop-at.units c.renumber_front.new.front (2 * c.loop-at.at));
      inside = omega (arith, there, size);
    }

pub returns-clause-ok : goal.returns-clause-ok
returns-clause-ok c = λ rs walk.
    let i = c.loop-at.invariant.inside in
    let t = c.loop-at-test.false in
    let even = c.requires.even in
    let e : c.loop-at.at ≡ length c.args.units.now / 2 = omega arith in
    written_end c.args.numbers.now c.args.units.now c.loop-at.units c.loop-at.at rs e walk c.loop-at.invariant.written (omega (arith, e, even))

pub returns-clause-fit : goal.returns-clause-fit
returns-clause-fit c = λ rs walk.
    let i = c.loop-at.invariant.inside in
    let t = c.loop-at-test.false in
    let e : c.loop-at.at ≡ length c.args.units.now / 2 = omega arith in
    written_fit c.args.numbers.now c.args.units.now c.loop-at.units c.loop-at.at rs e walk c.loop-at.invariant.written
