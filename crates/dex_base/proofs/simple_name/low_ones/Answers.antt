use Rattle.std.proofs.Common.{[], ◌∷◌, ◌++◌, refl, arith, rules}
use Rattle.dex_base.specs.inner.Names.{SpellsPoint}
use Rattle.dex_base.proofs.GrammarLaws.{Each-none}
use Rattle.dex_base.proofs.NameLaws.{low_more}
use Rattle.dex_base.proofs.simple_name.low_ones.Goals as goal

pub loop-at-init : goal.loop-at-init
loop-at-init c = ([], Each-none SpellsPoint c.args.units.now [] refl)

pub loop-at-preserved : goal.loop-at-preserved
loop-at-preserved c =
    let i = c.loop-at.invariant in
    let low = c.if-unit-ge128.false in
    (i.0 ++ _ ∷ [], low_more c.args.units.now i.0 c.loop-at.at c.loop-at-test.true (omega (arith, low)) (search rules) i.1)
