use Rattle.std.proofs.Common.{◌≡◌, sym, subst, ap, ◌∙◌, arith}
use Rattle.dex_container.specs.Layout.{size_of, offset_of}
use Rattle.file_renumber.proofs.ColumnLemmas.{table_size}
use Rattle.file_strip.specs.inner.Lists.{AreFirstLists}
use Rattle.file_strip.proofs.ListLaws.{first_lists, parameter_lists}
use Rattle.file_strip.proofs.lists.parameter_offsets.Goals as goal

pub loop-i-init : goal.loop-i-init
loop-i-init c = λ p k. subst (AreFirstLists c.args.sections.now c.args.numbers.now p 0) (sym c.new-offs.ensures.items) (first_lists c.args.sections.now c.args.numbers.now p k)

pub loop-i-preserved : goal.loop-i-preserved
loop-i-preserved c = λ p k. c.in_ok-push_parameters.ensures.ok p k (c.loop-i.invariant p k)

pub returns-clause-ok : goal.returns-clause-ok
returns-clause-ok c = λ p k.
    let e : c.table-i-end.result.0 ≡ size_of c.args.sections.now 2 = ap (λ x. x.0) c.table-i-end.ensures ∙ table_size (size_of c.args.sections.now 2) (offset_of c.args.sections.now 2) in
    parameter_lists c.args.sections.now c.args.numbers.now p k c.loop-i.i c.loop-i.offs.items (omega (arith, e, c.loop-i-test.false, c.loop-i.auto.i-end)) (c.loop-i.invariant p k)
