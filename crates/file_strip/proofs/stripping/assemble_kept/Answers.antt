use Rattle.std.proofs.Common.{◌+◌, length, ap, sym, ◌∙◌, arith, List, ℕ}
use Rattle.file_layout.specs.inner.Plan.{tables_end}
use Rattle.file_layout.proofs.TileLaws.{length-zeros}
use Rattle.file_put.specs.inner.Making.{places_of}
use Rattle.file_put.proofs.AssembledLaws.{array_count, assembled, data_count, list_count, row_count, text_count}
use Rattle.tables_names.specs.Needed.{needed}
use Rattle.file_strip.proofs.ReadyLaws.{room}
use Rattle.file_strip.proofs.stripping.assemble_kept.Goals as goal
use Rattle.dex_base.proofs.ListFacts.{passed}

pub counts_of-counts-requires : goal.counts_of-counts-requires
counts_of-counts-requires c = record { kept = (c.requires.ready.0, c.requires.ready.1.keeps) }

pub tables_end-requires : goal.tables_end-requires
tables_end-requires c =
    let p = c.requires.ready.0 in
    let r = c.requires.ready.1 in
    let w = room c.args.sections.now c.args.numbers.now p r in
    let e = ap tables_end (c.counts_of-counts.ensures p r.keeps) in
    omega (arith, e, w.rows_are, w.whole)

pub put_data-requires-clause-counts : goal.put_data-requires-clause-counts
put_data-requires-clause-counts c = λ p r. c.counts_of-counts.ensures p r.keeps

pub put_data-requires-clause-front : goal.put_data-requires-clause-front
put_data-requires-clause-front c = ap length c.in_ok-out.ensures.ok ∙ length-zeros _ ∙ c.tables_end.ensures

pub table_rows-requires : goal.table_rows-requires
table_rows-requires c =
    let p = c.requires.ready.0 in
    let r = c.requires.ready.1 in
    let s = needed p in
    let d = c.in_ok-laid.laid in
    let l = (c.in_ok-laid.ensures.ok p r).lies in
    record { kept = (p, r.keeps, ap (λ n. n.protos) (c.counts_of-counts.ensures p r.keeps), list_count _ s p d.plan (places_of d) l, text_count _ s p d.plan (places_of d) l, data_count _ s p d.plan (places_of d) l, array_count _ s p d.plan (places_of d) l) }

pub finish-requires : goal.finish-requires
finish-requires c =
    let p = c.requires.ready.0 in
    let r = c.requires.ready.1 in
    let s = needed p in
    let d = c.in_ok-laid.laid in
    let laid = c.in_ok-laid.ensures.ok p r in
    let n = row_count s p (places_of d) c.in_ok-rows.rows.items (c.in_ok-rows.ensures.ok p r.keeps (ap (λ n. n.protos) (c.counts_of-counts.ensures p r.keeps))) in
    record {
      planned = laid.planned;
      end = laid.end;
      rows = ap (λ (xs : List ℕ). 112 + length xs) c.deref.ensures.value ∙ n ∙ sym (ap tables_end laid.counts);
      room = let w = room c.args.sections.now c.args.numbers.now p r in omega (arith, laid.bound, w.sum, w.whole);
    }

pub returns-clause-ok : goal.returns-clause-ok
returns-clause-ok c = λ p r.
    let d = c.in_ok-laid.laid in
    let f = rw c.deref.ensures.value at c.in_ok-finish.ensures.ok in
    assembled c.put_data.new.out.items c.finish.new.out.items (needed p) p d.plan (places_of d) c.in_ok-rows.rows.items (c.in_ok-laid.ensures.ok p r) (c.in_ok-rows.ensures.ok p r.keeps (ap (λ n. n.protos) (c.counts_of-counts.ensures p r.keeps))) f c.in_ok-finish.ensures.short

pub returns-clause-near : goal.returns-clause-near
returns-clause-near c = c.in_ok-laid.ensures.near

pub returns-in_err-laid-clause-far : goal.returns-in_err-laid-clause-far
returns-in_err-laid-clause-far c = passed _ _ _ c.from_residual-in_err-laid.ensures.1 (λ ne. c.in_err-laid.ensures.far ne)
