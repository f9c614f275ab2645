use Rattle.std.proofs.Common.{◌∙◌, ◌+◌, ◌++◌, List, map, take, subst}
use Rattle.std.specs.List.{flat_map}
use Rattle.std.proofs.lemmas.List.{take_all}
use Rattle.program_types.specs.View.{try}
use Rattle.program_types.specs.declared.code.Try.{Try}
use Rattle.listing_print.specs.Canon.{try_numbers}
use Rattle.listing_print.specs.inner.Marks.{IsMarked}
use Rattle.listing_print.proofs.MarkLaws.{marked_join, flat_more}
use Rattle.listing_print.proofs.marks.mark_tries.Goals as goal

pub loop-i-preserved : goal.loop-i-preserved
loop-i-preserved c =
    let xs = c.args.tries.now in
    let i = c.loop-i.i in
    record {
      marked = λ ns m. marked_join c.mark_try.new.marks ns (flat_map try_numbers (map try (take i xs))) _ (flat_map try_numbers (map try (take (i + 1) xs))) (flat_more try try_numbers xs i _ c.loop-i-test.true) (c.mark_try.ensures.marked (ns ++ flat_map try_numbers (map try (take i xs))) (c.loop-i.invariant.marked ns m));
      same = c.mark_try.ensures.same ∙ c.loop-i.invariant.same;
    }

pub returns-clause-marked : goal.returns-clause-marked
returns-clause-marked c = λ ns m. subst (λ (xs : List Try). IsMarked c.loop-i.marks (ns ++ flat_map try_numbers (map try xs))) (take_all c.loop-i.i c.args.tries.now c.loop-i-test.false) (c.loop-i.invariant.marked ns m)
