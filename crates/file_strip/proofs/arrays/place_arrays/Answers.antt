use Rattle.std.proofs.Common.{List, [], get_or, subst, arith}
use Rattle.std.proofs.lemmas.List.{take_all}
use Rattle.program_types.specs.Content.{Value}
use Rattle.file_layout.specs.inner.Sections.{is_empty_list}
use Rattle.file_layout.specs.inner.Tiles.{AreShared}
use Rattle.dex_base.specs.Leb128.{Shortest}
use Rattle.dex_value.specs.Spelling.{SpellsArray}
use Rattle.dex_value.specs.Wide.{wide_array}
use Rattle.tables_names.specs.Closure.{NameRanks}
use Rattle.file_put.specs.inner.Arrays.{WritesArray}
use Rattle.file_put.proofs.LayingLaws.{items_few}
use Rattle.file_put.proofs.RankedArrays.{array_packs, array_one, array_most, arrays_once}
use Rattle.file_layout.proofs.SharingLaws.{sharing_start, sharing_next, sharing_end, sharing_shared}
use Rattle.file_strip.specs.inner.Statics.{IsCarriedStatics, WritesStatics}
use Rattle.file_renumber.proofs.MarkLemmas.{zip_at}
use Rattle.file_strip.proofs.MovedLaws.{moved_none}
use Rattle.file_strip.proofs.arrays.place_arrays.Goals as goal
use Rattle.dex_base.proofs.ListFacts.{zip_length}

pub loop-off-init : goal.loop-off-init
loop-off-init c = (
  λ s arrays z. rw (c.new-places.ensures.items, c.new-moved.ensures.items) (sharing_start is_empty_list (Shortest (SpellsArray (NameRanks s))) (WritesArray s) 1 wide_array c.args.out.now.items arrays),
  moved_none (WritesStatics c.args.sections.now c.args.numbers.now) c.new-moved.result.items c.new-moved.result.places c.new-moved.ensures.places,
)

pub add_array-requires-clause-values : goal.add_array-requires-clause-values
add_array-requires-clause-values c =
    let s = c.requires.arrays.0 in
    let arrays = c.requires.arrays.1 in
    let i = c.loop-off.off-index in
    (s, get_or arrays i [], zip_at (IsCarriedStatics c.args.sections.now c.args.numbers.now s) c.args.offs.now arrays i 0 [] c.loop-off-test.true c.requires.arrays.2)

pub add_array-requires-clause-room : goal.add_array-requires-clause-room
add_array-requires-clause-room c =
    let b = (c.loop-off.invariant.0 c.requires.arrays.0 c.requires.arrays.1 c.requires.arrays.2).laying.bound in
    omega (arith, b, c.requires.arrays.3)

pub add_array-requires-clause-moved : goal.add_array-requires-clause-moved
add_array-requires-clause-moved c = c.loop-off.invariant.1

pub loop-off-preserved : goal.loop-off-preserved
loop-off-preserved c = (
  λ s arrays z.
      let i = c.loop-off.off-index in
      let n = zip_length (IsCarriedStatics c.args.sections.now c.args.numbers.now s) c.args.offs.now arrays z in
      sharing_next is_empty_list (Shortest (SpellsArray (NameRanks s))) (WritesArray s) 1 wide_array _ _ _ arrays i [] _ _ _ _ _ (array_packs s) (array_one s) (array_most s _) (omega (arith, n, c.loop-off-test.true)) (c.loop-off.invariant.0 s arrays z) c.requires.front
      (c.in_ok-place.ensures.ok s (get_or arrays i []) (zip_at (IsCarriedStatics c.args.sections.now c.args.numbers.now s) c.args.offs.now arrays i 0 [] c.loop-off-test.true z)) c.in_ok-push.ensures.items,
  c.in_ok-place.ensures.moved,
)

pub count-requires : goal.count-requires
count-requires c =
    let s = c.requires.arrays.0 in
    let l = (c.loop-off.invariant.0 s c.requires.arrays.1 c.requires.arrays.2).laying in
    let f = items_few is_empty_list (Shortest (SpellsArray (NameRanks s))) 1 wide_array _ _ _ _ _ _ _ l in
    let b = l.bound in
    omega (arith, f, b, c.requires.arrays.3)

pub returns-clause-ok : goal.returns-clause-ok
returns-clause-ok c = λ s arrays z.
    let n = zip_length (IsCarriedStatics c.args.sections.now c.args.numbers.now s) c.args.offs.now arrays z in
    sharing_end is_empty_list (Shortest (SpellsArray (NameRanks s))) (WritesArray s) 1 wide_array _ _ arrays c.loop-off.off-index _ _ _ (omega (arith, n, c.loop-off-test.false)) (c.loop-off.invariant.0 s arrays z) c.count.ensures

pub returns-clause-once : goal.returns-clause-once
returns-clause-once c = λ s arrays rise z.
    let n = zip_length (IsCarriedStatics c.args.sections.now c.args.numbers.now s) c.args.offs.now arrays z in
    subst (λ (done : List (List Value)). AreShared c.loop-off.places.items done) (take_all c.loop-off.off-index arrays (omega (arith, n, c.loop-off-test.false)))
    (sharing_shared is_empty_list (Shortest (SpellsArray (NameRanks s))) (WritesArray s) 1 wide_array (arrays_once s rise) _ _ _ _ _ _ _ (c.loop-off.invariant.0 s arrays z))
