use Rattle.std.proofs.Common.{◌∷◌, [], ℕ, List, map, sym, subst}
use Rattle.std.proofs.lemmas.List.{append-nil}
use Rattle.program_types.specs.Content as content
use Rattle.program_types.specs.View.{catch}
use Rattle.listing_print.specs.inner.Marks.{IsMarked}
use Rattle.listing_print.proofs.MarkLaws.{marked_try}
use Rattle.listing_print.proofs.marks.mark_try.Goals as goal

pub returns-in-Some-clause-marked : goal.returns-in-Some-clause-marked
returns-in-Some-clause-marked c = λ ns m.
    let cs = map (λ (x : content.Catch). x.at) (map catch c.args.one.now.catches.now) in
    let a = c.mark_catches.ensures.marked _ (c.mark-2.ensures.marked _ (c.mark.ensures.marked ns m)) in
    rw c.in-Some.is (marked_try c.mark-in-Some.new.marks ns c.args.one.now.from c.args.one.now.to cs (c.in-Some.at ∷ []) (c.mark-in-Some.ensures.marked _ a))

pub returns-in_default-clause-marked : goal.returns-in_default-clause-marked
returns-in_default-clause-marked c = λ ns m.
    let cs = map (λ (x : content.Catch). x.at) (map catch c.args.one.now.catches.now) in
    let a = c.mark_catches.ensures.marked _ (c.mark-2.ensures.marked _ (c.mark.ensures.marked ns m)) in
    rw c.in_default.is (marked_try c.mark_catches.new.marks ns c.args.one.now.from c.args.one.now.to cs [] (subst (λ (l : List ℕ). IsMarked c.mark_catches.new.marks l) (sym (append-nil _)) a))
