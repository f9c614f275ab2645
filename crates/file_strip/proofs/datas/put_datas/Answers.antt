use Rattle.std.proofs.Common.{◌<◌, Some, length, ap, sym, ◌∙◌, arith}
use Rattle.std.proofs.lemmas.Option.{slice_get-get_or}
use Rattle.file_classes.proofs.EntryLaws.{entry_at}
use Rattle.file_put.specs.inner.Data.{PacksData, has_no_members, wide_with_codes}
use Rattle.file_put.proofs.LayingLaws.{items_few}
use Rattle.file_put.proofs.SitedLaws.{room_of_sited}
use Rattle.tables_names.specs.Closure.{NameRanks}
use Rattle.tables_names.specs.Needed.{needed}
use Rattle.file_strip.proofs.SiteLaws.{entries_carried, sited_start, sited_room, sited_next, sited_end}
use Rattle.file_strip.proofs.datas.put_datas.Goals as goal

pub loop-i-init : goal.loop-i-init
loop-i-init c = λ p k. rw (c.new-placed.ensures.places, c.new-placed.ensures.items) (sited_start p c.args.out.now.items c.args.codes.now)

pub put_class-requires : goal.put_class-requires
put_class-requires c =
    let p = c.requires.kept.0 in
    let k = c.requires.kept.1 in
    let i = c.loop-i.i in
    let lt : i < length p = omega (arith, k.classes.count, c.loop-i-test.true, c.class_count-i-end.ensures) in
    let x = entry_at p i lt in
    let at = slice_get-get_or c.args.members.now i c.index-members-i.result (omega (arith, c.requires.members.count, c.loop-i-test.true, c.class_count-i-end.ensures)) ∙ ap Some (sym c.index-members-i.is) in
    let room = sited_room p c.args.codes.now c.args.out.now.items _ _ _ i _ lt c.requires.kept.2 c.requires.kept.3 (c.loop-i.invariant p k) x.0 x.1 in
    record { members = (needed p, x.0, entries_carried c.args.sections.now c.args.numbers.now p k i x.0 _ x.1 (c.requires.members.each i c.index-members-i.result at), room) }

pub loop-i-preserved : goal.loop-i-preserved
loop-i-preserved c = λ p k.
    let i = c.loop-i.i in
    let n = k.classes.count in
    let at = slice_get-get_or c.args.members.now i c.index-members-i.result (omega (arith, c.requires.members.count, c.loop-i-test.true, c.class_count-i-end.ensures)) ∙ ap Some (sym c.index-members-i.is) in
    sited_next p c.args.codes.now c.args.out.now.items _ _ _ _ _ _ i _ _ _ (omega (arith, n, c.loop-i-test.true, c.class_count-i-end.ensures)) c.requires.front (c.loop-i.invariant p k)
    (λ x is. c.in_ok-place.ensures.ok (needed p) x (entries_carried c.args.sections.now c.args.numbers.now p k i x _ is (c.requires.members.each i c.index-members-i.result at))) c.in_ok-add.ensures.places c.in_ok-add.ensures.items

pub returns-clause-ok : goal.returns-clause-ok
returns-clause-ok c = λ p k.
    let n = k.classes.count in
    sited_end p c.args.codes.now c.args.out.now.items _ _ _ c.loop-i.i _ (omega (arith, n, c.loop-i-test.false, c.class_count-i-end.ensures)) (c.loop-i.invariant p k)

pub add-requires : goal.add-requires
add-requires c =
    let p = c.requires.kept.0 in
    let s = c.loop-i.invariant p c.requires.kept.1 in
    let f = items_few has_no_members (PacksData (NameRanks (needed p))) 1 wide_with_codes _ _ _ _ _ _ _ s.0 in
    let a = room_of_sited p c.args.codes.now in
    let b = s.0.bound in
    omega (arith, f, a, b, c.requires.kept.3, c.requires.front)
