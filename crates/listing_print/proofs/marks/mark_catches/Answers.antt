use Rattle.std.proofs.Common.{◌∙◌, ◌+◌, ◌++◌, List, map, take, subst}
use Rattle.std.proofs.lemmas.List.{take_all}
use Rattle.program_types.specs.Content as content
use Rattle.program_types.specs.View.{catch}
use Rattle.program_types.specs.declared.code.Catch.{Catch}
use Rattle.listing_print.specs.inner.Marks.{IsMarked}
use Rattle.listing_print.proofs.MarkLaws.{marked_join, map_more}
use Rattle.listing_print.proofs.marks.mark_catches.Goals as goal

pub loop-i-preserved : goal.loop-i-preserved
loop-i-preserved c =
    let xs = c.args.catches.now in
    let i = c.loop-i.i in
    record {
      marked = λ ns m. marked_join c.mark.new.marks ns (map (λ (c : content.Catch). c.at) (map catch (take i xs))) _ (map (λ (c : content.Catch). c.at) (map catch (take (i + 1) xs))) (map_more catch (λ (c : content.Catch). c.at) xs i _ c.loop-i-test.true) (c.mark.ensures.marked (ns ++ map (λ (c : content.Catch). c.at) (map catch (take i xs))) (c.loop-i.invariant.marked ns m));
      same = c.mark.ensures.same ∙ c.loop-i.invariant.same;
    }

pub returns-clause-marked : goal.returns-clause-marked
returns-clause-marked c = λ ns m. subst (λ (xs : List Catch). IsMarked c.loop-i.marks (ns ++ map (λ (c : content.Catch). c.at) (map catch xs))) (take_all c.loop-i.i c.args.catches.now c.loop-i-test.false) (c.loop-i.invariant.marked ns m)
