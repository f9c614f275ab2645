use Rattle.std.proofs.Common.{get_or, arith}
use Rattle.std.proofs.lemmas.List.{take_more, take_all}
use Rattle.dex_base.specs.Mutf8.{SpellsUnit}
use Rattle.dex_base.proofs.UnitLaws.{unit_appends}
use Rattle.dex_base.proofs.TextLaws.{unit_length, mutf8_length-more}
use Rattle.dex_base.proofs.GrammarLaws.{Each-appends_more}
use Rattle.dex_base.proofs.mutf8.put_mutf8.Goals as goal

pub loop-unit-preserved : goal.loop-unit-preserved
loop-unit-preserved c =
    let unit = get_or c.args.units.now c.loop-unit.unit-index 0 in
    record {
      put = rw (take_more c.args.units.now c.loop-unit.unit-index 0 c.loop-unit-test.true) (Each-appends_more SpellsUnit _ _ _ _ _ c.loop-unit.invariant.put (unit_appends _ _ _ (omega (arith, c.type_inv.units c.loop-unit.unit-index)) c.put_unit.ensures.ok));
      room = omega (arith, c.loop-unit.invariant.room, c.put_unit.ensures.len, (unit_length unit).1, c.put_unit.ensures.capacity);
      short = omega (arith, c.loop-unit.invariant.short, c.put_unit.ensures.len, mutf8_length-more c.args.units.now c.loop-unit.unit-index c.loop-unit-test.true);
    }

pub returns-clause-len : goal.returns-clause-len
returns-clause-len c =
    let all = take_all c.loop-unit.unit-index c.args.units.now (omega arith) in
    omega (arith, rw all at c.loop-unit.invariant.short)
