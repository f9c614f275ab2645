use Rattle.std.proofs.Common.{List, Option, None, get_or, sym, ap, subst, ◌∙◌, arith}
use Rattle.std.proofs.lemmas.List.{take_all}
use Rattle.program_types.specs.Content.{Code}
use Rattle.tables_names.specs.Closure.{NameRanks}
use Rattle.file_layout.specs.inner.Tiles.{AreShared}
use Rattle.file_limits.specs.Wide.{wide_body}
use Rattle.file_put.specs.inner.Codes.{PacksBody, WritesBody, is_bodiless}
use Rattle.file_put.proofs.LayingLaws.{items_few, room_at}
use Rattle.file_put.proofs.OneBody.{bodies_packs, bodies_one, bodies_most, bodies_once}
use Rattle.file_layout.proofs.SharingLaws.{sharing_start, sharing_next, sharing_end, sharing_shared}
use Rattle.file_strip.specs.inner.Bodies.{AreNear, IsFar, WritesCarried, bodies_alone}
use Rattle.file_strip.proofs.BodyLaws.{carried_at, first_far, near_body, near_more, owned_long, turn_of}
use Rattle.file_strip.proofs.MovedLaws.{moved_none}
use Rattle.file_strip.proofs.codes.place_bodies.Goals as goal
use Rattle.dex_base.proofs.ListFacts.{passed}

pub loop-body-init : goal.loop-body-init
loop-body-init c = (
  λ s xs z. (rw (c.new-places.ensures.items, c.new-moved.ensures.items) (sharing_start is_bodiless (PacksBody (NameRanks s)) (WritesBody s) 4 wide_body c.args.out.now.items (bodies_alone xs)), tt),
  moved_none (WritesCarried c.args.sections.now c.args.numbers.now) c.new-moved.result.items c.new-moved.result.places c.new-moved.ensures.places,
)

pub add_body-requires-clause-body : goal.add_body-requires-clause-body
add_body-requires-clause-body c =
    let s = c.requires.bodies.0 in
    let xs = c.requires.bodies.1 in
    let z = c.requires.bodies.2 in
    let i = c.loop-body.body-index in
    let n = owned_long c.args.sections.now c.args.numbers.now s c.args.bodies.now xs z in
    let w = room_at wide_body (bodies_alone xs) i None (omega (arith, n.1, c.loop-body-test.true)) in
    let b = (c.loop-body.invariant.0 s xs z).0.laying.bound in
    (s, get_or (bodies_alone xs) i None, (carried_at c.args.sections.now c.args.numbers.now s c.args.bodies.now xs i c.loop-body-test.true z).1, omega (arith, w, b, c.requires.bodies.3))

pub add_body-requires-clause-moved : goal.add_body-requires-clause-moved
add_body-requires-clause-moved c = c.loop-body.invariant.1

pub returns-in_err-place-clause-far : goal.returns-in_err-place-clause-far
returns-in_err-place-clause-far c =
    passed _ _ _ c.from_residual.ensures.1
    (λ ne.
    let f = c.in_err-place.ensures.far ne in (
      ap (λ e. e.code) f.0,
      λ s xs z.
          let i = c.loop-body.body-index in
          let x = carried_at c.args.sections.now c.args.numbers.now s c.args.bodies.now xs i c.loop-body-test.true z in
          let t = turn_of xs i in
          let n = owned_long c.args.sections.now c.args.numbers.now s c.args.bodies.now xs z in
          first_far s xs i (0, None) _ (omega (arith, n.0, c.loop-body-test.true)) (c.loop-body.invariant.0 s xs z).1 (sym x.0 ∙ sym (ap (λ e. e.place) f.0))
          (subst (IsFar s) t (f.1 s (get_or (bodies_alone xs) i None) x.1)),
    ))

pub loop-body-preserved : goal.loop-body-preserved
loop-body-preserved c = (
  λ s xs z.
      let i = c.loop-body.body-index in
      let n = owned_long c.args.sections.now c.args.numbers.now s c.args.bodies.now xs z in
      let x = (carried_at c.args.sections.now c.args.numbers.now s c.args.bodies.now xs i c.loop-body-test.true z).1 in
      let v = get_or (bodies_alone xs) i None in
      let u = c.in_ok-place.ensures.ok s v x in (
        sharing_next is_bodiless (PacksBody (NameRanks s)) (WritesBody s) 4 wide_body _ _ _ (bodies_alone xs) i None _ _ _ _ _ (bodies_packs s) (bodies_one s) (bodies_most s _) (omega (arith, n.1, c.loop-body-test.true)) (c.loop-body.invariant.0 s xs z).0 c.requires.front
            u c.in_ok-push.ensures.items,
        near_more s xs i (0, None) (omega (arith, n.0, c.loop-body-test.true)) (c.loop-body.invariant.0 s xs z).1 (λ f. near_body c.args.sections.now c.args.numbers.now s _ v 4 _ _ _ _ _ x u (subst (IsFar s) (sym (turn_of xs i)) f)),
      ),
  c.in_ok-place.ensures.moved,
)

pub count-requires : goal.count-requires
count-requires c =
    let s = c.requires.bodies.0 in
    let l = (c.loop-body.invariant.0 s c.requires.bodies.1 c.requires.bodies.2).0.laying in
    let f = items_few is_bodiless (PacksBody (NameRanks s)) 4 wide_body _ _ _ _ _ _ _ l in
    let b = l.bound in
    omega (arith, f, b, c.requires.bodies.3)

pub returns-clause-ok : goal.returns-clause-ok
returns-clause-ok c = λ s xs z.
    let n = owned_long c.args.sections.now c.args.numbers.now s c.args.bodies.now xs z in
    sharing_end is_bodiless (PacksBody (NameRanks s)) (WritesBody s) 4 wide_body _ _ (bodies_alone xs) c.loop-body.body-index _ _ _ (omega (arith, n.1, c.loop-body-test.false)) (c.loop-body.invariant.0 s xs z).0 c.count.ensures

pub returns-clause-once : goal.returns-clause-once
returns-clause-once c = λ s xs rise z.
    let n = owned_long c.args.sections.now c.args.numbers.now s c.args.bodies.now xs z in
    subst (λ (done : List (Option Code)). AreShared c.loop-body.places.items done) (take_all c.loop-body.body-index (bodies_alone xs) (omega (arith, n.1, c.loop-body-test.false)))
    (sharing_shared is_bodiless (PacksBody (NameRanks s)) (WritesBody s) 4 wide_body (bodies_once s rise) _ _ _ _ _ _ _ (c.loop-body.invariant.0 s xs z).0)

pub returns-clause-near : goal.returns-clause-near
returns-clause-near c = λ s xs z.
    let n = owned_long c.args.sections.now c.args.numbers.now s c.args.bodies.now xs z in
    subst (AreNear s) (take_all c.loop-body.body-index xs (omega (arith, n.0, c.loop-body-test.false))) (c.loop-body.invariant.0 s xs z).1
