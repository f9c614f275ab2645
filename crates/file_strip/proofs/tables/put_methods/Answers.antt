use Rattle.std.proofs.Common.{◌≡◌, ap, ◌∙◌, arith}
use Rattle.dex_container.specs.Layout.{size_of, offset_of}
use Rattle.file_put.specs.inner.Rows.{SpellsMethodRow}
use Rattle.program_types.specs.Key.{method_ref_key}
use Rattle.tables_names.specs.Needed.{needed}
use Rattle.file_renumber.proofs.ColumnLemmas.{table_size}
use Rattle.file_renumber.proofs.RankLemmas.{totals_are_lengths}
use Rattle.file_strip.proofs.TableLaws.{rows_start, rows_end}
use Rattle.file_strip.proofs.tables.put_methods.Goals as goal

pub loop-i-init : goal.loop-i-init
loop-i-init c = λ p k. let b = c.args.sections.now in rows_start method_ref_key (SpellsMethodRow (needed p)) (size_of b 4) k.marks.columns.methods c.args.numbers.now.methods k.marked.methods.shape k.numbered.methods (needed p).methods c.args.rows.now.items

pub loop-i-preserved : goal.loop-i-preserved
loop-i-preserved c = λ p k. c.in_ok-put_method.ensures.ok p c.args.rows.now.items k (c.loop-i.invariant p k)

pub returns-clause-ok : goal.returns-clause-ok
returns-clause-ok c = λ p k.
    let b = c.args.sections.now in
    let e : c.table-i-end.result.0 ≡ size_of b 4 = ap (λ x. x.0) c.table-i-end.ensures ∙ table_size (size_of b 4) (offset_of b 4) in
    rows_end method_ref_key (SpellsMethodRow (needed p)) (size_of b 4) k.marks.columns.methods c.args.numbers.now.methods k.marked.methods.shape k.numbered.methods (needed p).methods c.args.rows.now.items c.loop-i.rows.items c.loop-i.i
    (omega (arith, e, c.loop-i-test.false, c.loop-i.auto.i-end)) (totals_are_lengths b k.marks (needed p) c.args.numbers.now k.tables k.marked k.numbered).methods (c.loop-i.invariant p k)
