use Rattle.std.proofs.Common.{◌+◌, ◌++◌, add-one, suc, map, take, drop, get_or, ap, arith, subst, List, [], Option}
use Rattle.std.proofs.lemmas.List.{take_all, drop_all}
use Rattle.std.specs.List.{flat_map}
use Rattle.file_layout.proofs.SharingLaws.{sharing_start, sharing_shared}
use Rattle.file_layout.specs.Sections.{wide_all}
use Rattle.file_limits.proofs.SumLaws.{wide_all_append}
use Rattle.file_limits.specs.Wide.{bodies_in, bodies_of, wide_body}
use Rattle.file_limits.specs.inner.Wide.{body_values}
use Rattle.tables_names.specs.Closure.{NameRanks}
use Rattle.tables_names.specs.Noted.{AreRanks}
use Rattle.program_types.specs.Content as content
use Rattle.program_types.specs.View as view
use Rattle.program_types.specs.declared.class.Class.{Class}
use Rattle.file_put.proofs.OneBody.{bodies_once}
use Rattle.file_put.proofs.CodeLaws.{Bodies, class_left, first_part, both_parts}
use Rattle.file_layout.specs.inner.Tiles.{AreShared}
use Rattle.file_put.proofs.LayingLaws.{items_few}
use Rattle.file_put.proofs.NumberLaws.{no_class}
use Rattle.file_needed.specs.inner.Bodies.{defined_in, named_in_body, named_in_code}
use Rattle.file_put.proofs.MentionLaws.{next_class}
use Rattle.file_put.specs.inner.Codes.{PacksBody, WritesBody, is_bodiless}
use Rattle.file_put.specs.inner.Named.{BodyCanBePut}
use Rattle.file_put.proofs.codes.put_codes.Goals as goal
use Rattle.dex_base.proofs.ListFacts.{all_front, all_back, map_at}

pub loop-class-init : goal.loop-class-init
loop-class-init c =
    record {
      put = rw (c.new-places.ensures.items, c.new-items.ensures) (sharing_start is_bodiless (PacksBody (NameRanks c.args.ranks.now)) (WritesBody c.args.ranks.now) 4 wide_body c.args.out.now.items (body_values (map view.class c.args.program.now.classes.now)));
      rest = c.requires.indices;
    }

pub put_bodies-requires-clause-can : goal.put_bodies-requires-clause-can
put_bodies-requires-clause-can c =
    all_front (BodyCanBePut c.args.ranks.now) _ _ (c.requires.can c.loop-class.class-index _ (map_at view.class c.args.program.now.classes.now c.loop-class.class-index _ c.loop-class-test.true))

pub put_bodies-requires-clause-room : goal.put_bodies-requires-clause-room
put_bodies-requires-clause-room c =
    let b = c.loop-class.invariant.put.laying.bound in
    let e = ap (wide_all wide_body) (class_left c.args.program.now.classes.now c.loop-class.class-index no_class c.loop-class-test.true) in
    let w = wide_all_append wide_body (bodies_in (map view.method (get_or c.args.program.now.classes.now c.loop-class.class-index no_class).directs.now)) (bodies_in (map view.method (get_or c.args.program.now.classes.now c.loop-class.class-index no_class).virtuals.now) ++ flat_map bodies_of (map view.class (drop (c.loop-class.class-index + 1) c.args.program.now.classes.now))) in
    omega (arith, b, e, w, c.requires.room)

pub put_bodies-requires-in-loop-class-clause-can : goal.put_bodies-requires-in-loop-class-clause-can
put_bodies-requires-in-loop-class-clause-can c =
    all_back (BodyCanBePut c.args.ranks.now) (bodies_in (map view.method (get_or c.args.program.now.classes.now c.loop-class.class-index no_class).directs.now)) (bodies_in (map view.method (get_or c.args.program.now.classes.now c.loop-class.class-index no_class).virtuals.now))
    (c.requires.can c.loop-class.class-index _ (map_at view.class c.args.program.now.classes.now c.loop-class.class-index no_class c.loop-class-test.true))

pub put_bodies-requires-in-loop-class-clause-room : goal.put_bodies-requires-in-loop-class-clause-room
put_bodies-requires-in-loop-class-clause-room c =
    let cs = c.args.program.now.classes.now in
    let i = c.loop-class.class-index in
    let l = first_part c.args.ranks.now cs i no_class _ _ _ _ _ _ _ c.loop-class-test.true c.requires.front c.loop-class.invariant.put c.in_ok-left.ensures.ok in
    let b = l.laying.bound in
    let w = wide_all_append wide_body (bodies_in (map view.method (get_or cs i no_class).virtuals.now)) (flat_map bodies_of (map view.class (drop (i + 1) cs))) in
    omega (arith, b, w, c.requires.room)

pub loop-class-preserved : goal.loop-class-preserved
loop-class-preserved c =
    let cs = c.args.program.now.classes.now in
    let i = c.loop-class.class-index in
    let own = get_or cs i no_class in
    let others = named_in_code (map view.class (drop (suc i) cs)) ++ defined_in (map view.class cs) in
    record {
      put = both_parts c.args.ranks.now cs i no_class _ _ _ _ _ _ _ _ _ _ c.loop-class-test.true c.requires.front c.loop-class.invariant.put
          c.in_ok-left.ensures.ok c.in_ok-rest.ensures.ok;
      rest = rw add-one (c.in_ok-rest.ensures.left others (c.in_ok-left.ensures.left (flat_map named_in_body (map view.method own.virtuals.now) ++ others) (next_class c.args.ranks.now cs i no_class (defined_in (map view.class cs)) c.loop-class.rest.now c.loop-class-test.true c.loop-class.invariant.rest)));
    }

pub put_bodies-requires-clause-indices : goal.put_bodies-requires-clause-indices
put_bodies-requires-clause-indices c =
    let cs = c.args.program.now.classes.now in
    let i = c.loop-class.class-index in
    let others = named_in_code (map view.class (drop (suc i) cs)) ++ defined_in (map view.class cs) in
    (flat_map named_in_body (map view.method (get_or cs i no_class).virtuals.now) ++ others, next_class c.args.ranks.now cs i no_class (defined_in (map view.class cs)) c.loop-class.rest.now c.loop-class-test.true c.loop-class.invariant.rest)

pub put_bodies-requires-in-loop-class-clause-indices : goal.put_bodies-requires-in-loop-class-clause-indices
put_bodies-requires-in-loop-class-clause-indices c =
    let cs = c.args.program.now.classes.now in
    let i = c.loop-class.class-index in
    let others = named_in_code (map view.class (drop (suc i) cs)) ++ defined_in (map view.class cs) in
    (others, c.in_ok-left.ensures.left (flat_map named_in_body (map view.method (get_or cs i no_class).virtuals.now) ++ others) (next_class c.args.ranks.now cs i no_class (defined_in (map view.class cs)) c.loop-class.rest.now c.loop-class-test.true c.loop-class.invariant.rest))

pub returns-clause-left : goal.returns-clause-left
returns-clause-left c =
    let cs = c.args.program.now.classes.now in
    let i = c.loop-class.class-index in
    subst (λ (xs : List Class). AreRanks c.args.ranks.now (named_in_code (map view.class xs) ++ defined_in (map view.class cs)) c.loop-class.rest.now) (drop_all i cs c.loop-class-test.false) c.loop-class.invariant.rest

pub count-requires : goal.count-requires
count-requires c =
    let f = items_few is_bodiless (PacksBody (NameRanks c.args.ranks.now)) 4 wide_body _ _ _ _ _ _ _ c.loop-class.invariant.put.laying in
    let b = c.loop-class.invariant.put.laying.bound in
    omega (arith, f, b, c.requires.room)

pub returns-clause-ok : goal.returns-clause-ok
returns-clause-ok c =
    let cs = c.args.program.now.classes.now in
    let i = c.loop-class.class-index in
    let done = ap (λ (xs : List Class). body_values (map view.class xs)) (take_all i cs c.loop-class-test.false) in
    let none = ap (λ (xs : List Class). body_values (map view.class xs)) (drop_all i cs c.loop-class-test.false) in
    let all =
    subst (λ (d : List (Option content.Code)). Bodies c.args.ranks.now c.args.out.now.items c.loop-class.out.items d [] (body_values (map view.class cs)) c.loop-class.places.items c.loop-class.items) done
    (subst (λ (r : List (Option content.Code)). Bodies c.args.ranks.now c.args.out.now.items c.loop-class.out.items (body_values (map view.class (take i cs))) r (body_values (map view.class cs)) c.loop-class.places.items c.loop-class.items) none c.loop-class.invariant.put) in
    rw c.count.ensures all.laying

pub returns-clause-once : goal.returns-clause-once
returns-clause-once c =
    let cs = c.args.program.now.classes.now in
    let i = c.loop-class.class-index in
    let s = c.args.ranks.now in
    let done = ap (λ (xs : List Class). body_values (map view.class xs)) (take_all i cs c.loop-class-test.false) in
    subst (λ (d : List (Option content.Code)). AreShared c.loop-class.places.items d) done
    (sharing_shared is_bodiless (PacksBody (NameRanks s)) (WritesBody s) 4 wide_body (bodies_once s c.rise.ensures) _ _ _ _ _ _ _ c.loop-class.invariant.put)
