use Rattle.std.proofs.Common.{sym, ◌∙◌}
use Rattle.std.proofs.lemmas.List.{take-append-drop, nil_from_length}
use Rattle.std.proofs.lemmas.Bool.{eqb-true}
use Rattle.dex_base.proofs.AdlerSums.{completed_more, completed_all}
use Rattle.dex_base.proofs.adler.adler32.Goals as goal

pub loop-rest-preserved : goal.loop-rest-preserved
loop-rest-preserved c = completed_more _ _ _ _ _ _ _ _ c.loop-rest.invariant (rw (c.split_at.ensures.front, c.split_at.ensures.back) (sym (take-append-drop _ _))) c.add_all-sums.ensures.a c.add_all-sums.ensures.b

pub returns : goal.returns
returns c = completed_all _ _ _ _ c.loop-rest.invariant (nil_from_length _ (eqb-true _ _ (sym c.is_empty.ensures ∙ c.loop-rest-test.false)))
