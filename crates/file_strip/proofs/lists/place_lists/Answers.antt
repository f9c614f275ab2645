use Rattle.std.proofs.Common.{List, [], get_or, subst, arith}
use Rattle.std.proofs.lemmas.List.{take_all}
use Rattle.program_types.specs.Content.{Units}
use Rattle.file_layout.specs.inner.Sections.{is_empty_list}
use Rattle.file_layout.specs.inner.Tiles.{AreShared}
use Rattle.file_limits.specs.Wide.{wide_list}
use Rattle.file_put.specs.inner.Lists.{SpellsRanks}
use Rattle.file_put.proofs.LayingLaws.{items_few, room_at}
use Rattle.file_put.proofs.RankedLists.{list_packs, list_one, list_most, lists_once}
use Rattle.file_layout.proofs.SharingLaws.{sharing_start, sharing_next, sharing_end, sharing_shared}
use Rattle.file_strip.specs.inner.Lists.{IsCarriedList, WritesList}
use Rattle.file_renumber.proofs.MarkLemmas.{zip_at}
use Rattle.file_strip.proofs.MovedLaws.{moved_none}
use Rattle.file_strip.proofs.lists.place_lists.Goals as goal
use Rattle.dex_base.proofs.ListFacts.{zip_length}

pub loop-off-init : goal.loop-off-init
loop-off-init c = (
  λ s lists z. rw (c.new-places.ensures.items, c.new-moved.ensures.items) (sharing_start is_empty_list (SpellsRanks s) (SpellsRanks s) 4 wide_list c.args.out.now.items lists),
  moved_none (WritesList c.args.sections.now c.args.numbers.now) c.new-moved.result.items c.new-moved.result.places c.new-moved.ensures.places,
)

pub add_list-requires-clause-list : goal.add_list-requires-clause-list
add_list-requires-clause-list c =
    let s = c.requires.lists.0 in
    let lists = c.requires.lists.1 in
    let z = c.requires.lists.2 in
    let i = c.loop-off.off-index in
    let n = zip_length (IsCarriedList c.args.sections.now c.args.numbers.now s) c.args.offs.now lists z in
    let w = room_at wide_list lists i [] (omega (arith, n, c.loop-off-test.true)) in
    let b = (c.loop-off.invariant.0 s lists z).laying.bound in
    (s, get_or lists i [], zip_at (IsCarriedList c.args.sections.now c.args.numbers.now s) c.args.offs.now lists i 0 [] c.loop-off-test.true z, omega (arith, w, b, c.requires.lists.3))

pub add_list-requires-clause-moved : goal.add_list-requires-clause-moved
add_list-requires-clause-moved c = c.loop-off.invariant.1

pub loop-off-preserved : goal.loop-off-preserved
loop-off-preserved c = (
  λ s lists z.
      let i = c.loop-off.off-index in
      let n = zip_length (IsCarriedList c.args.sections.now c.args.numbers.now s) c.args.offs.now lists z in
      sharing_next is_empty_list (SpellsRanks s) (SpellsRanks s) 4 wide_list _ _ _ lists i [] _ _ _ _ _ (list_packs s) (list_one s) (list_most s _) (omega (arith, n, c.loop-off-test.true)) (c.loop-off.invariant.0 s lists z) c.requires.front
      (c.in_ok-place.ensures.ok s (get_or lists i []) (zip_at (IsCarriedList c.args.sections.now c.args.numbers.now s) c.args.offs.now lists i 0 [] c.loop-off-test.true z)) c.in_ok-push.ensures.items,
  c.in_ok-place.ensures.moved,
)

pub count-requires : goal.count-requires
count-requires c =
    let s = c.requires.lists.0 in
    let l = (c.loop-off.invariant.0 s c.requires.lists.1 c.requires.lists.2).laying in
    let f = items_few is_empty_list (SpellsRanks s) 4 wide_list _ _ _ _ _ _ _ l in
    let b = l.bound in
    omega (arith, f, b, c.requires.lists.3)

pub returns-clause-ok : goal.returns-clause-ok
returns-clause-ok c = λ s lists z.
    let n = zip_length (IsCarriedList c.args.sections.now c.args.numbers.now s) c.args.offs.now lists z in
    sharing_end is_empty_list (SpellsRanks s) (SpellsRanks s) 4 wide_list _ _ lists c.loop-off.off-index _ _ _ (omega (arith, n, c.loop-off-test.false)) (c.loop-off.invariant.0 s lists z) c.count.ensures

pub returns-clause-once : goal.returns-clause-once
returns-clause-once c = λ s lists rise z.
    let n = zip_length (IsCarriedList c.args.sections.now c.args.numbers.now s) c.args.offs.now lists z in
    subst (λ (done : List (List Units)). AreShared c.loop-off.places.items done) (take_all c.loop-off.off-index lists (omega (arith, n, c.loop-off-test.false)))
    (sharing_shared is_empty_list (SpellsRanks s) (SpellsRanks s) 4 wide_list (lists_once s rise) _ _ _ _ _ _ _ (c.loop-off.invariant.0 s lists z))
