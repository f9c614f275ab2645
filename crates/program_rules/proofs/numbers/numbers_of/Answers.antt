use Rattle.std.proofs.Common.{map, get_or, ap, sym, not, ◌∙◌}
use Rattle.std.proofs.lemmas.Slice.Eq.{bytes_eq-Decides}
use Rattle.program_types.specs.View.{desc}
use Rattle.program_rules.proofs.NumberLaws.{last-more, as-found, again-now, again-kept, again-known}
use Rattle.program_rules.proofs.numbers.numbers_of.Goals.{then-is_none+then-is_some, else-is_none, else-is_none-via-then-is_none+else-is_some, else-is_none-via-else-is_none}
use Rattle.program_rules.proofs.numbers.numbers_of.Goals as goal
use Rattle.dex_base.proofs.ListFacts.{map_at}

pub loop-k-preserved : goal.loop-k-preserved
loop-k-preserved c =
    let ts = map desc c.args.list.now in
    let n = c.loop-k.k in
    let at = map_at desc c.args.list.now n _ c.loop-k-test.true in
    let before = as-found ts n _ c.in_ok-before.before _ c.in_ok-before.ensures.old (c.loop-k.invariant.last (get_or c.args.list.now n _)) in
    record {
      last = λ t. rw (c.in_ok-before.ensures.updates.0 t) (last-more ts n _ at (desc t) _ _ (bytes_eq-Decides _ (desc t)) (c.loop-k.invariant.last t));
      again = elim c.if-is_none.branch [
        | then-is_none+then-is_some w ↦ rw w.again-is (again-now ts n _ at c.loop-k.again c.in_ok-before.before (c.is_none.ensures ∙ ap not w.if-is_none.true) (sym w.is_some.ensures ∙ w.if-is_some.true) c.loop-k.invariant.again before)
        | else-is_none w ↦ rw w.again-is (elim w.else-is_none.branch [
          | else-is_none-via-then-is_none+else-is_some v ↦ again-kept ts n _ at c.loop-k.again c.in_ok-before.before (sym v.is_some.ensures ∙ v.if-is_some.false) c.loop-k.invariant.again before
          | else-is_none-via-else-is_none v ↦ again-known ts n _ at c.loop-k.again (c.is_none.ensures ∙ ap not v.if-is_none.false) c.loop-k.invariant.again
        ])
      ];
    }
