use Rattle.std.proofs.Common.{◌≡◌, ap, ◌∙◌, arith}
use Rattle.dex_container.specs.Layout.{size_of, offset_of}
use Rattle.file_renumber.proofs.ColumnLemmas.{table_size}
use Rattle.file_strip.proofs.SizeLaws.{sum_start, sum_end, totals}
use Rattle.file_strip.proofs.sizes.protos_size.Goals as goal

pub loop-i-init : goal.loop-i-init
loop-i-init c = λ p k. sum_start _ _ _ _ k.marked.protos.shape k.numbered.protos _

pub loop-i-preserved : goal.loop-i-preserved
loop-i-preserved c = λ p k. c.add_proto-sum.ensures p k (c.loop-i.invariant p k)

pub returns : goal.returns
returns c = λ p k.
    let b = c.args.sections.now in
    let e : c.table-i-end.result.0 ≡ size_of b 2 = ap (λ x. x.0) c.table-i-end.ensures ∙ table_size (size_of b 2) (offset_of b 2) in
    sum_end _ _ _ _ k.marked.protos.shape k.numbered.protos _ c.loop-i.i c.loop-i.sum (omega (arith, e, c.loop-i-test.false, c.loop-i.auto.i-end)) (totals b c.args.numbers.now p k).protos (c.loop-i.invariant p k)
