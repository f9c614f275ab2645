use Rattle.std.proofs.Common.{◌≡◌, ap, ◌∙◌, arith}
use Rattle.dex_container.specs.Layout.{size_of, offset_of}
use Rattle.tables_names.specs.Needed.{needed}
use Rattle.file_renumber.proofs.ColumnLemmas.{table_size}
use Rattle.file_renumber.proofs.RankLemmas.{totals_are_lengths}
use Rattle.file_strip.proofs.KeepLaws.{same_lengths}
use Rattle.file_strip.proofs.TableLaws.{protos_start, protos_end}
use Rattle.file_strip.proofs.tables.put_protos.Goals as goal

pub loop-i-init : goal.loop-i-init
loop-i-init c = λ p k. let b = c.args.sections.now in protos_start (needed p) c.args.places.now (size_of b 2) k.marks.columns.protos c.args.numbers.now.protos k.marked.protos.shape k.numbered.protos (c.requires.kept.2 ∙ (same_lengths b c.args.numbers.now c.requires.kept.0 p c.requires.kept.1 k).1) c.args.rows.now.items

pub loop-i-preserved : goal.loop-i-preserved
loop-i-preserved c = λ p k. c.in_ok-put_proto.ensures.ok p c.args.rows.now.items k (c.loop-i.invariant p k)

pub returns-clause-ok : goal.returns-clause-ok
returns-clause-ok c = λ p k.
    let b = c.args.sections.now in
    let e : c.table-i-end.result.0 ≡ size_of b 2 = ap (λ x. x.0) c.table-i-end.ensures ∙ table_size (size_of b 2) (offset_of b 2) in
    protos_end (needed p) c.args.places.now (size_of b 2) k.marks.columns.protos c.args.numbers.now.protos k.marked.protos.shape k.numbered.protos (c.requires.kept.2 ∙ (same_lengths b c.args.numbers.now c.requires.kept.0 p c.requires.kept.1 k).1)
    c.args.rows.now.items c.loop-i.rows.items c.loop-i.i (omega (arith, e, c.loop-i-test.false, c.loop-i.auto.i-end)) (totals_are_lengths b k.marks (needed p) c.args.numbers.now k.tables k.marked k.numbered).protos (c.loop-i.invariant p k)
