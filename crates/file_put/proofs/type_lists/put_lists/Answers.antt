use Rattle.std.proofs.Common.{arith, [], List, subst}
use Rattle.program_types.specs.View as view
use Rattle.file_put.proofs.NumberLaws.{list_count}
use Rattle.file_put.proofs.LayingLaws.{items_few, room_at}
use Rattle.file_put.proofs.RankedLists.{list_packs, list_one, list_most, lists_once}
use Rattle.file_layout.specs.inner.Sections.{is_empty_list}
use Rattle.file_put.specs.inner.Lists.{SpellsRanks}
use Rattle.file_limits.specs.Wide.{wide_list}
use Rattle.file_limits.specs.inner.Wide.{list_values}
use Rattle.file_layout.proofs.SharingLaws.{sharing_start, sharing_next, sharing_end, sharing_shared}
use Rattle.file_layout.specs.inner.Tiles.{AreShared}
use Rattle.std.proofs.lemmas.List.{take_all}
use Rattle.program_types.specs.Content.{Descriptor}
use Rattle.file_put.proofs.type_lists.put_lists.Goals as goal

pub loop-number-init : goal.loop-number-init
loop-number-init c = rw (c.new-places.ensures.items, c.new-items.ensures) (sharing_start is_empty_list (SpellsRanks c.args.ranks.now) (SpellsRanks c.args.ranks.now) 4 wide_list c.args.out.now.items (list_values c.args.ranks.now (view.program c.args.program.now)))

pub add_numbered-requires-clause-number : goal.add_numbered-requires-clause-number
add_numbered-requires-clause-number c =
    let n = list_count c.args.ranks.now c.protos.result.now c.args.program.now.classes.now c.protos.ensures in
    omega (arith, n, c.loop-number-test.true)

pub add_numbered-requires-clause-room : goal.add_numbered-requires-clause-room
add_numbered-requires-clause-room c =
    let n = list_count c.args.ranks.now c.protos.result.now c.args.program.now.classes.now c.protos.ensures in
    let w = room_at wide_list (list_values c.args.ranks.now (view.program c.args.program.now)) c.loop-number.number [] (omega (arith, n, c.loop-number-test.true)) in
    let b = c.loop-number.invariant.laying.bound in
    omega (arith, w, b, c.requires.room)

pub loop-number-preserved : goal.loop-number-preserved
loop-number-preserved c =
    let n = list_count c.args.ranks.now c.protos.result.now c.args.program.now.classes.now c.protos.ensures in
    let s = c.args.ranks.now in
    sharing_next is_empty_list (SpellsRanks s) (SpellsRanks s) 4 wide_list _ _ _ (list_values s (view.program c.args.program.now)) c.loop-number.number [] _ _ _ _ _ (list_packs s) (list_one s) (list_most s _)
    (omega (arith, n, c.loop-number-test.true)) c.loop-number.invariant c.requires.front c.in_ok-place.ensures.ok c.in_ok-push.ensures.items

pub count-requires : goal.count-requires
count-requires c =
    let f = items_few is_empty_list (SpellsRanks c.args.ranks.now) 4 wide_list _ _ _ _ _ _ _ c.loop-number.invariant.laying in
    let b = c.loop-number.invariant.laying.bound in
    omega (arith, f, b, c.requires.room)

pub returns-clause-ok : goal.returns-clause-ok
returns-clause-ok c =
    let n = list_count c.args.ranks.now c.protos.result.now c.args.program.now.classes.now c.protos.ensures in
    sharing_end is_empty_list (SpellsRanks c.args.ranks.now) (SpellsRanks c.args.ranks.now) 4 wide_list _ _ (list_values c.args.ranks.now (view.program c.args.program.now)) c.loop-number.number _ _ _ (omega (arith, n, c.loop-number-test.false)) c.loop-number.invariant c.count.ensures

pub returns-clause-once : goal.returns-clause-once
returns-clause-once c =
    let n = list_count c.args.ranks.now c.protos.result.now c.args.program.now.classes.now c.protos.ensures in
    let s = c.args.ranks.now in
    let vs = list_values s (view.program c.args.program.now) in
    subst (λ (done : List (List Descriptor)). AreShared c.loop-number.places.items done) (take_all c.loop-number.number vs (omega (arith, n, c.loop-number-test.false)))
    (sharing_shared is_empty_list (SpellsRanks s) (SpellsRanks s) 4 wide_list (lists_once s c.rise.ensures) _ _ _ _ _ _ _ c.loop-number.invariant)
