use Rattle.std.proofs.Common.{map, ap, sym, arith, refl, subst, List, ◌∙◌}
use Rattle.std.proofs.lemmas.List.{take_all}
use Rattle.file_put.specs.inner.Arrays.{WritesArray}
use Rattle.file_layout.specs.inner.Tiles.{AreShared}
use Rattle.program_types.specs.View as view
use Rattle.program_types.specs.declared.class.Class.{Class}
use Rattle.file_put.proofs.LayingLaws.{items_few, room_of_element, shared_of, shared_all}
use Rattle.file_layout.specs.Sections.{wide_all}
use Rattle.file_layout.specs.inner.Sections.{is_empty_list, Laid}
use Rattle.file_layout.proofs.SharingLaws.{sharing_start, sharing_shared}
use Rattle.file_put.proofs.NumberLaws.{no_class}
use Rattle.dex_base.specs.Leb128.{Shortest}
use Rattle.tables_names.specs.Closure.{NameRanks}
use Rattle.program_types.specs.Content as content
use Rattle.dex_value.specs.Spelling.{SpellsArray}
use Rattle.dex_value.specs.Wide.{wide_array}
use Rattle.file_put.proofs.RankedArrays.{array_packs, array_one, array_most, arrays_once}
use Rattle.file_put.proofs.ArrayLaws.{values_ranked}
use Rattle.file_put.proofs.arrays.put_arrays.Goals as goal
use Rattle.file_limits.proofs.PartLaws.{map_map}

pub loop-class-init : goal.loop-class-init
loop-class-init c = rw (c.new-places.ensures.items, c.new-items.ensures) (sharing_start is_empty_list (Shortest (SpellsArray (NameRanks c.args.ranks.now))) (WritesArray c.args.ranks.now) 1 wide_array c.args.out.now.items (map (λ (x : Class). map view.value x.values.now) c.args.program.now.classes.now))

pub add_array-requires-clause-named : goal.add_array-requires-clause-named
add_array-requires-clause-named c = values_ranked c.args.ranks.now (view.program c.args.program.now) c.args.program.now.classes.now c.loop-class.class-index _ c.requires.needed c.requires.few refl c.loop-class-test.true

pub add_array-requires-clause-room : goal.add_array-requires-clause-room
add_array-requires-clause-room c =
    let w = room_of_element (λ (x : Class). map view.value x.values.now) wide_array c.args.program.now.classes.now c.loop-class.class-index no_class c.loop-class-test.true in
    let b = c.loop-class.invariant.laying.bound in
    let m = ap (wide_all wide_array) (map_map (λ (x : content.Class). x.values) view.class c.args.program.now.classes.now) in
    omega (arith, w, b, m, c.requires.room)

pub count-requires : goal.count-requires
count-requires c =
    let f = items_few is_empty_list (Shortest (SpellsArray (NameRanks c.args.ranks.now))) 1 wide_array _ _ _ _ _ _ _ c.loop-class.invariant.laying in
    let b = c.loop-class.invariant.laying.bound in
    let m = ap (wide_all wide_array) (map_map (λ (x : content.Class). x.values) view.class c.args.program.now.classes.now) in
    omega (arith, f, b, m, c.requires.room)

pub loop-class-preserved : goal.loop-class-preserved
loop-class-preserved c =
    let s = c.args.ranks.now in
    shared_of (λ (x : Class). map view.value x.values.now) is_empty_list (Shortest (SpellsArray (NameRanks s))) (WritesArray s) 1 wide_array _ _ _ c.args.program.now.classes.now c.loop-class.class-index _ _ _ _ _ _
    (array_packs s) (array_one s) (array_most s _) c.loop-class-test.true c.loop-class.invariant c.requires.front c.in_ok-place.ensures.ok c.in_ok-push.ensures.items

pub returns-clause-ok : goal.returns-clause-ok
returns-clause-ok c =
    let s = c.args.ranks.now in
    let m = map_map (λ (x : content.Class). x.values) view.class c.args.program.now.classes.now in
    let l = shared_all (λ (x : Class). map view.value x.values.now) is_empty_list (Shortest (SpellsArray (NameRanks s))) (WritesArray s) 1 wide_array _ _ c.args.program.now.classes.now c.loop-class.class-index _ _ _ (omega (arith, c.loop-class-test.false)) c.loop-class.invariant c.count.ensures in
    subst (λ (vs : List (List content.Value)). Laid is_empty_list (Shortest (SpellsArray (NameRanks s))) 1 wide_array c.args.out.now.items c.loop-class.out.items vs c.loop-class.places.items c.count.result) (sym m) l

pub returns-clause-once : goal.returns-clause-once
returns-clause-once c =
    let s = c.args.ranks.now in
    let cs = c.args.program.now.classes.now in
    let done = ap (map (λ (x : Class). map view.value x.values.now)) (take_all c.loop-class.class-index cs (omega (arith, c.loop-class-test.false))) in
    let m = map_map (λ (x : content.Class). x.values) view.class cs in
    subst (λ (vs : List (List content.Value)). AreShared c.loop-class.places.items vs) (done ∙ sym m)
    (sharing_shared is_empty_list (Shortest (SpellsArray (NameRanks s))) (WritesArray s) 1 wide_array (arrays_once s c.rise.ensures) _ _ _ _ _ _ _ c.loop-class.invariant)
