use Rattle.std.proofs.Common.{◌+◌, length, ap, sym, ◌∙◌, arith, List, ℕ}
use Rattle.file_layout.specs.inner.Plan.{tables_end}
use Rattle.file_layout.proofs.TileLaws.{length-zeros}
use Rattle.program_types.specs.View as view
use Rattle.file_put.specs.inner.Making.{places_of}
use Rattle.file_put.proofs.AssembledLaws.{array_count, assembled, data_count, list_count, row_count, text_count}
use Rattle.file_put.proofs.FitsLaws.{room_of}
use Rattle.file_put.proofs.assembling.assemble_ranked.Goals as goal

pub counts_of-counts-requires : goal.counts_of-counts-requires
counts_of-counts-requires c = let r = room_of c.args.ranks.now (view.program c.args.program.now) c.requires.needed c.requires.fits in omega (arith, r.rows_are, r.whole)

pub tables_end-requires : goal.tables_end-requires
tables_end-requires c =
    let r = room_of c.args.ranks.now (view.program c.args.program.now) c.requires.needed c.requires.fits in
    let e = ap tables_end c.counts_of-counts.ensures in
    omega (arith, e, r.rows_are, r.whole)

pub put_data-requires-clause-front : goal.put_data-requires-clause-front
put_data-requires-clause-front c = ap length c.in_ok-out.ensures.ok ∙ length-zeros _ ∙ c.tables_end.ensures

pub table_rows-requires : goal.table_rows-requires
table_rows-requires c =
    let s = c.args.ranks.now in
    let p = view.program c.args.program.now in
    let d = c.in_ok-data.data in
    let l = c.in_ok-data.ensures.ok.lies in
    record {
      needed = c.requires.needed;
      fits = c.requires.fits;
      lists = list_count _ s p d.plan (places_of d) l;
      texts = text_count _ s p d.plan (places_of d) l;
      datas = data_count _ s p d.plan (places_of d) l;
      arrays = array_count _ s p d.plan (places_of d) l;
    }

pub finish-requires : goal.finish-requires
finish-requires c =
    let s = c.args.ranks.now in
    let p = view.program c.args.program.now in
    let d = c.in_ok-data.data in
    let laid = c.in_ok-data.ensures.ok in
    let n = row_count s p (places_of d) c.in_ok-rows.rows.items c.in_ok-rows.ensures.ok in
    record {
      planned = laid.planned;
      end = laid.end;
      rows = ap (λ (xs : List ℕ). 112 + length xs) c.deref.ensures.value ∙ n ∙ sym (ap tables_end laid.counts);
      room = let r = room_of s p c.requires.needed c.requires.fits in omega (arith, laid.bound, r.sum, r.whole);
    }

pub returns-clause-assembled : goal.returns-clause-assembled
returns-clause-assembled c =
    let d = c.in_ok-data.data in
    let f = rw c.deref.ensures.value at c.in_ok-finish.ensures.ok in
    assembled c.put_data.new.out.items c.finish.new.out.items c.args.ranks.now (view.program c.args.program.now) d.plan (places_of d) c.in_ok-rows.rows.items c.in_ok-data.ensures.ok c.in_ok-rows.ensures.ok f c.in_ok-finish.ensures.short
