use Rattle.std.proofs.Common.{◌≡◌, ap, ◌∙◌, arith}
use Rattle.dex_container.specs.Layout.{size_of, offset_of}
use Rattle.file_put.specs.inner.Rows.{SpellsTypeRow}
use Rattle.program_types.specs.Key.{text_key}
use Rattle.tables_names.specs.Needed.{needed}
use Rattle.file_renumber.proofs.ColumnLemmas.{table_size}
use Rattle.file_renumber.proofs.RankLemmas.{totals_are_lengths}
use Rattle.file_strip.proofs.TableLaws.{rows_start, rows_end}
use Rattle.file_strip.proofs.tables.put_types.Goals as goal

pub loop-i-init : goal.loop-i-init
loop-i-init c = λ p k. let b = c.args.sections.now in rows_start text_key (SpellsTypeRow (needed p)) (size_of b 1) k.marks.columns.types c.args.numbers.now.types k.marked.types.shape k.numbered.types (needed p).types c.args.rows.now.items

pub loop-i-preserved : goal.loop-i-preserved
loop-i-preserved c = λ p k. c.in_ok-put_type.ensures.ok p c.args.rows.now.items k (c.loop-i.invariant p k)

pub returns-clause-ok : goal.returns-clause-ok
returns-clause-ok c = λ p k.
    let b = c.args.sections.now in
    let e : c.table-i-end.result.0 ≡ size_of b 1 = ap (λ x. x.0) c.table-i-end.ensures ∙ table_size (size_of b 1) (offset_of b 1) in
    rows_end text_key (SpellsTypeRow (needed p)) (size_of b 1) k.marks.columns.types c.args.numbers.now.types k.marked.types.shape k.numbered.types (needed p).types c.args.rows.now.items c.loop-i.rows.items c.loop-i.i (omega (arith, e, c.loop-i-test.false, c.loop-i.auto.i-end)) (totals_are_lengths b k.marks (needed p) c.args.numbers.now k.tables k.marked k.numbered).types (c.loop-i.invariant p k)
