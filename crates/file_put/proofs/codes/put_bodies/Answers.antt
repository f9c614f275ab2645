use Rattle.std.proofs.Common.{List, ◌++◌, add-one, map, arith, subst}
use Rattle.std.proofs.lemmas.List.{drop_all}
use Rattle.std.specs.List.{flat_map}
use Rattle.program_types.specs.declared.class.Method.{Method}
use Rattle.tables_names.specs.Noted.{AreRanks}
use Rattle.file_needed.specs.inner.Bodies.{named_in_body}
use Rattle.file_put.proofs.MentionLaws.{next_named, no_method}
use Rattle.file_limits.specs.Wide.{bodies_in}
use Rattle.program_types.specs.View as view
use Rattle.file_put.proofs.CodeLaws.{bodies_start, bodies_step, bodies_end, body_at, body_fits}
use Rattle.file_put.specs.inner.Named.{BodyCanBePut}
use Rattle.file_put.proofs.codes.put_bodies.Goals as goal

pub loop-method-init : goal.loop-method-init
loop-method-init c = record { put = bodies_start c.args.ranks.now c.args.out.now.items (bodies_in (map view.method c.args.methods.now)) c.args.places.now.items c.args.items.now; rest = λ more h. h }

pub add_body-requires-clause-can : goal.add_body-requires-clause-can
add_body-requires-clause-can c = body_at (BodyCanBePut c.args.ranks.now) c.args.methods.now c.loop-method.method-index _ c.loop-method-test.true c.requires.can

pub add_body-requires-clause-room : goal.add_body-requires-clause-room
add_body-requires-clause-room c =
    body_fits _ c.args.out.now.items c.args.methods.now c.loop-method.method-index _ _ c.loop-method-test.true c.loop-method.invariant.put.bound c.requires.room

pub loop-method-preserved : goal.loop-method-preserved
loop-method-preserved c =
    let methods = c.args.methods.now in
    let k = c.loop-method.method-index in
    record {
      put = bodies_step c.args.ranks.now c.args.out.now.items _ _ (bodies_in (map view.method methods)) methods k _ _ _ _ _ _ _ _ c.loop-method-test.true c.loop-method.invariant.put
          c.in_ok-place.ensures.ok c.in_ok-push.ensures.items;
      rest = λ more h. rw (c.split_at.ensures.back, c.named_in.ensures, add-one) (next_named c.args.ranks.now named_in_body view.method methods k _ more c.loop-method.rest.now c.loop-method-test.true (c.loop-method.invariant.rest more h)).2;
    }

pub split_at-requires : goal.split_at-requires
split_at-requires c =
    let more = c.requires.indices in
    let next = next_named c.args.ranks.now named_in_body view.method c.args.methods.now c.loop-method.method-index no_method more.0 c.loop-method.rest.now c.loop-method-test.true (c.loop-method.invariant.rest more.0 more.1) in
    omega (arith, next.0, c.named_in.ensures)

pub add_body-requires-clause-indices : goal.add_body-requires-clause-indices
add_body-requires-clause-indices c =
    let more = c.requires.indices in
    let next = next_named c.args.ranks.now named_in_body view.method c.args.methods.now c.loop-method.method-index _ more.0 c.loop-method.rest.now c.loop-method-test.true (c.loop-method.invariant.rest more.0 more.1) in
    rw (c.split_at.ensures.front, c.named_in.ensures) next.1

pub returns-clause-left : goal.returns-clause-left
returns-clause-left c more h =
    let methods = c.args.methods.now in
    let k = c.loop-method.method-index in
    subst (λ (xs : List Method). AreRanks c.args.ranks.now (flat_map named_in_body (map view.method xs) ++ more) c.loop-method.rest.now) (drop_all k methods c.loop-method-test.false) (c.loop-method.invariant.rest more h)

pub returns-clause-ok : goal.returns-clause-ok
returns-clause-ok c = bodies_end c.args.ranks.now c.args.out.now.items _ c.args.methods.now c.loop-method.method-index _ _ _ _ c.loop-method-test.false c.loop-method.invariant.put
