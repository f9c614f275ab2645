use Rattle.std.proofs.Common.{[], ◌∷◌, ◌++◌}
use Rattle.std.proofs.lemmas.List.{take_rest}
use Rattle.dex_base.specs.inner.Names.{SpellsPoint}
use Rattle.dex_base.proofs.GrammarLaws.{Each-more}
use Rattle.dex_base.proofs.simple_name.name_run.Goals as goal

pub loop-length-preserved : goal.loop-length-preserved
loop-length-preserved c =
    let i = c.loop-length.invariant in
    (i.0 ++ c.in-Some.field-0-0 ∷ [], Each-more SpellsPoint c.args.units.now i.0 c.in-Some.field-0-0 _ _ i.1 (simp take_rest at c.in-Some.ensures.found))

pub returns-clause-run : goal.returns-clause-run
returns-clause-run c =
    let i = c.loop-length.invariant in
    record { points = i.0; read = i.1; ends = simp take_rest at c.in_default.ensures.none }

pub returns-clause-inside : goal.returns-clause-inside
returns-clause-inside c = c.loop-length.invariant.1.inside
