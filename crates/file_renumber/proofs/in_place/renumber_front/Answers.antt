use Rattle.std.proofs.Common.{◌∙◌, ℕ, List, ap, sym, arith}
use Rattle.dex_base.specs.Fields.{u16_at, u32_at}
use Rattle.file_renumber.proofs.FormLemmas.{plain_done, is_short, short_done, long_has, long_done, five_has, five_done, payload_done}
use Rattle.file_renumber.proofs.ShapeLemmas.{unit_long, second_unit, second_units, named_second, longer, moved_has, new_is, size_is, subst_named}
use Rattle.file_renumber.proofs.in_place.renumber_front.Goals as goal

pub opcode_at-op-requires : goal.opcode_at-op-requires
opcode_at-op-requires c = unit_long c.args.front.now c.requires.0 c.requires.1

pub shape_at-requires : goal.shape_at-requires
shape_at-requires c = (c.requires.0, c.requires.1)

pub renumber_short-requires-clause-inside : goal.renumber_short-requires-clause-inside
renumber_short-requires-clause-inside c =
    (is_short c.args.numbers.now c.args.front.now c.opcode_at-op.result (u16_at c.args.front.now 2) c.opcode_at-op.ensures _ c.requires.0 (second_unit c.args.front.now) c.requires.1 c.requires.2.numbered (c.in-Short.ensures c.requires.0 c.requires.1)).whole

pub renumber_short-requires-clause-has : goal.renumber_short-requires-clause-has
renumber_short-requires-clause-has c =
    (is_short c.args.numbers.now c.args.front.now c.opcode_at-op.result (u16_at c.args.front.now 2) c.opcode_at-op.ensures _ c.requires.0 (second_unit c.args.front.now) c.requires.1 c.requires.2.numbered (c.in-Short.ensures c.requires.0 c.requires.1)).has

pub u32_at-requires : goal.u32_at-requires
u32_at-requires c =
    (long_has c.args.numbers.now c.args.front.now c.opcode_at-op.result (u32_at c.args.front.now 2) c.opcode_at-op.ensures c.requires.0 (second_units c.args.front.now) c.requires.1 c.requires.2.numbered (c.in-Long.ensures c.requires.0 c.requires.1)).0

pub number_of-index-requires : goal.number_of-index-requires
number_of-index-requires c =
    (long_has c.args.numbers.now c.args.front.now c.opcode_at-op.result c.u32_at.result c.opcode_at-op.ensures c.requires.0 (c.u32_at.ensures ∙ second_units c.args.front.now) c.requires.1 c.requires.2.numbered (c.in-Long.ensures c.requires.0 c.requires.1)).1

pub put_u32_at-requires : goal.put_u32_at-requires
put_u32_at-requires c =
    (long_has c.args.numbers.now c.args.front.now c.opcode_at-op.result (u32_at c.args.front.now 2) c.opcode_at-op.ensures c.requires.0 (second_units c.args.front.now) c.requires.1 c.requires.2.numbered (c.in-Long.ensures c.requires.0 c.requires.1)).0

pub clear_unnamed-requires : goal.clear_unnamed-requires
clear_unnamed-requires c =
    (five_has c.args.numbers.now c.args.front.now c.opcode_at-op.result (u16_at c.args.front.now 2) c.opcode_at-op.ensures c.requires.0 (second_unit c.args.front.now) c.requires.1 c.requires.2.numbered (c.in-Five.ensures c.requires.0 c.requires.1)).0

pub renumber_short-requires-in-Five-clause-inside : goal.renumber_short-requires-in-Five-clause-inside
renumber_short-requires-in-Five-clause-inside c =
    longer c.args.front.now c.clear_unnamed.new.front _ c.clear_unnamed.ensures
    (five_has c.args.numbers.now c.args.front.now c.opcode_at-op.result (u16_at c.args.front.now 2) c.opcode_at-op.ensures c.requires.0 (second_unit c.args.front.now) c.requires.1 c.requires.2.numbered (c.in-Five.ensures c.requires.0 c.requires.1)).0

pub renumber_short-requires-in-Five-clause-has : goal.renumber_short-requires-in-Five-clause-has
renumber_short-requires-in-Five-clause-has c =
    let five = five_has c.args.numbers.now c.args.front.now c.opcode_at-op.result (u16_at c.args.front.now 2) c.opcode_at-op.ensures c.requires.0 (second_unit c.args.front.now) c.requires.1 c.requires.2.numbered (c.in-Five.ensures c.requires.0 c.requires.1) in
    moved_has c.args.numbers.now c.opcode_at-op.result _ _ (sym (ap (λ (z : List ℕ). u16_at z 2) c.clear_unnamed.ensures ∙ named_second c.args.front.now _ five.0)) five.1

pub returns-in-Plain : goal.returns-in-Plain
returns-in-Plain c = λ r s can. size_is c.args.numbers.now c.args.front.now c.args.front.now _ _ r c.from.ensures (plain_done c.args.numbers.now c.args.front.now _ r c.are_bytes.ensures.each s can.fits (c.in-Plain.ensures r s))

pub returns-in-Short : goal.returns-in-Short
returns-in-Short c = λ r s can.
    size_is c.args.numbers.now c.args.front.now c.renumber_short.new.front _ _ r c.from-in-Short.ensures
    (new_is c.args.numbers.now c.args.front.now _ _ _ r c.renumber_short.ensures
    (short_done c.args.numbers.now c.args.front.now c.opcode_at-op.result (u16_at c.args.front.now 2) c.opcode_at-op.ensures _ r (second_unit c.args.front.now) c.are_bytes.ensures.each s can (c.in-Short.ensures r s)))

pub returns-in-Long : goal.returns-in-Long
returns-in-Long c = λ r s can.
    new_is c.args.numbers.now c.args.front.now _ _ 3 r c.put_u32_at.ensures
    (long_done c.args.numbers.now c.args.front.now c.opcode_at-op.result c.u32_at.result c.opcode_at-op.ensures r (c.u32_at.ensures ∙ second_units c.args.front.now) c.are_bytes.ensures.each s can (c.in-Long.ensures r s) c.number_of-index.result c.number_of-index.ensures (omega arith))

pub returns-in-Five : goal.returns-in-Five
returns-in-Five c = λ r s can.
    let five = five_has c.args.numbers.now c.args.front.now c.opcode_at-op.result (u16_at c.args.front.now 2) c.opcode_at-op.ensures c.requires.0 (second_unit c.args.front.now) c.requires.1 c.requires.2.numbered (c.in-Five.ensures c.requires.0 c.requires.1) in
    new_is c.args.numbers.now c.args.front.now _ _ 3 r (c.renumber_short-in-Five.ensures ∙ subst_named c.args.numbers.now c.args.front.now c.clear_unnamed.new.front _ c.opcode_at-op.result c.clear_unnamed.ensures five.0)
    (five_done c.args.numbers.now c.args.front.now c.opcode_at-op.result (u16_at c.args.front.now 2) c.opcode_at-op.ensures r (second_unit c.args.front.now) c.are_bytes.ensures.each s can (c.in-Five.ensures r s))

pub returns-in-Payload : goal.returns-in-Payload
returns-in-Payload c = λ r s can.
    let p = c.clear_pad.ensures r s in
    new_is c.args.numbers.now c.args.front.now _ _ _ r p.1 (payload_done c.args.numbers.now c.args.front.now c.clear_pad.result r c.are_bytes.ensures.each s can.fits (c.in-Payload.ensures r s) p.0)

pub clear_pad-requires : goal.clear_pad-requires
clear_pad-requires c = (c.requires.0, c.requires.1)
