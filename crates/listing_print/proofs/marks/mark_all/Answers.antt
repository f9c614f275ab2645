use Rattle.std.proofs.Common.{◌∙◌, ◌+◌, ◌++◌, ◌∷◌, [], ℕ, List, take, get_or, subst}
use Rattle.std.proofs.lemmas.List.{take_all, take_more}
use Rattle.listing_print.specs.inner.Marks.{IsMarked}
use Rattle.listing_print.proofs.MarkLaws.{marked_join}
use Rattle.listing_print.proofs.marks.mark_all.Goals as goal

pub loop-i-preserved : goal.loop-i-preserved
loop-i-preserved c =
    let ks = c.args.numbers.now in
    let i = c.loop-i.i in
    record {
      marked = λ ns m. marked_join c.mark.new.marks ns (take i ks) (get_or ks i 0 ∷ []) (take (i + 1) ks) (take_more ks i 0 c.loop-i-test.true) (c.mark.ensures.marked (ns ++ take i ks) (c.loop-i.invariant.marked ns m));
      same = c.mark.ensures.same ∙ c.loop-i.invariant.same;
    }

pub returns-clause-marked : goal.returns-clause-marked
returns-clause-marked c = λ ns m. subst (λ (ks : List ℕ). IsMarked c.loop-i.marks (ns ++ ks)) (take_all c.loop-i.i c.args.numbers.now c.loop-i-test.false) (c.loop-i.invariant.marked ns m)
