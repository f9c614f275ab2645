use Rattle.std.proofs.Common.{◌≡◌, length, ap, ◌∙◌, arith}
use Rattle.file_layout.specs.inner.Plan.{tables_end}
use Rattle.file_layout.specs.inner.Tiles.{Refers}
use Rattle.file_limits.specs.inner.Wide.{body_values}
use Rattle.program_types.specs.View as view
use Rattle.file_put.specs.inner.Codes.{is_bodiless}
use Rattle.file_put.proofs.SitedLaws.{room_of_sited}
use Rattle.file_put.specs.inner.Assembled.{Places, rows_of}
use Rattle.file_put.proofs.DataParts.{laid, next}
use Rattle.file_put.proofs.FitsLaws.{after, few_of, room_of}
use Rattle.file_put.proofs.OnceLaws.{datas_shared}
use Rattle.file_put.proofs.ReadyLaws.{class_can}
use Rattle.file_put.proofs.assembling.put_data.Goals as goal
use Rattle.dex_base.proofs.ListFacts.{zip_length}

pub overflow_cast-tables : goal.overflow_cast-tables
overflow_cast-tables c =
    let r = (after c.requires.needed c.requires.fits c.requires.counts c.requires.front).small in
    omega (arith, r, c.len-tables.ensures, c.args.out.now.ok.0)

pub put_lists-requires-clause-front : goal.put_lists-requires-clause-front
put_lists-requires-clause-front c = (after c.requires.needed c.requires.fits c.requires.counts c.requires.front).some

pub put_lists-requires-clause-room : goal.put_lists-requires-clause-room
put_lists-requires-clause-room c =
    let r = (after c.requires.needed c.requires.fits c.requires.counts c.requires.front).small in
    omega (arith, r)

pub put_lists-requires-clause-few : goal.put_lists-requires-clause-few
put_lists-requires-clause-few c =
    (room_of c.args.ranks.now (view.program c.args.program.now) c.requires.needed c.requires.fits).few_types

pub overflow_cast-lists_end : goal.overflow_cast-lists_end
overflow_cast-lists_end c =
    let r = (next (after c.requires.needed c.requires.fits c.requires.counts c.requires.front) c.in_ok-lists.ensures.ok).small in
    omega (arith, r, c.len-lists_end.ensures, c.put_lists.new.out.ok.0)

pub put_codes-requires-clause-front : goal.put_codes-requires-clause-front
put_codes-requires-clause-front c = (next (after c.requires.needed c.requires.fits c.requires.counts c.requires.front) c.in_ok-lists.ensures.ok).some

pub put_codes-requires-clause-room : goal.put_codes-requires-clause-room
put_codes-requires-clause-room c =
    let r = (next (after c.requires.needed c.requires.fits c.requires.counts c.requires.front) c.in_ok-lists.ensures.ok).small in
    omega (arith, r)

pub put_codes-requires-clause-can : goal.put_codes-requires-clause-can
put_codes-requires-clause-can c =
    λ i k there. class_can c.args.ranks.now (view.program c.args.program.now) i k c.requires.needed c.requires.formed c.requires.fits (room_of c.args.ranks.now (view.program c.args.program.now) c.requires.needed c.requires.fits) there

pub overflow_cast-codes_end : goal.overflow_cast-codes_end
overflow_cast-codes_end c =
    let r = (next (next (after c.requires.needed c.requires.fits c.requires.counts c.requires.front) c.in_ok-lists.ensures.ok) c.in_ok-codes.ensures.ok).small in
    omega (arith, r, c.len-codes_end.ensures, c.put_codes.new.out.ok.0)

pub put_strings-requires-clause-front : goal.put_strings-requires-clause-front
put_strings-requires-clause-front c = (next (next (after c.requires.needed c.requires.fits c.requires.counts c.requires.front) c.in_ok-lists.ensures.ok) c.in_ok-codes.ensures.ok).some

pub put_strings-requires-clause-room : goal.put_strings-requires-clause-room
put_strings-requires-clause-room c =
    let r = (next (next (after c.requires.needed c.requires.fits c.requires.counts c.requires.front) c.in_ok-lists.ensures.ok) c.in_ok-codes.ensures.ok).small in
    omega (arith, r)

pub overflow_cast-texts_end : goal.overflow_cast-texts_end
overflow_cast-texts_end c =
    let r = (next (next (next (after c.requires.needed c.requires.fits c.requires.counts c.requires.front) c.in_ok-lists.ensures.ok) c.in_ok-codes.ensures.ok) c.in_ok-texts.ensures.ok).small in
    omega (arith, r, c.len-texts_end.ensures, c.put_strings.new.out.ok.0)

pub put_arrays-requires-clause-front : goal.put_arrays-requires-clause-front
put_arrays-requires-clause-front c = (next (next (next (after c.requires.needed c.requires.fits c.requires.counts c.requires.front) c.in_ok-lists.ensures.ok) c.in_ok-codes.ensures.ok) c.in_ok-texts.ensures.ok).some

pub put_arrays-requires-clause-room : goal.put_arrays-requires-clause-room
put_arrays-requires-clause-room c =
    let r = (next (next (next (after c.requires.needed c.requires.fits c.requires.counts c.requires.front) c.in_ok-lists.ensures.ok) c.in_ok-codes.ensures.ok) c.in_ok-texts.ensures.ok).small in
    omega (arith, r)

pub put_arrays-requires-clause-few : goal.put_arrays-requires-clause-few
put_arrays-requires-clause-few c =
    few_of c.args.ranks.now (view.program c.args.program.now) (room_of c.args.ranks.now (view.program c.args.program.now) c.requires.needed c.requires.fits)

pub overflow_cast-arrays_end : goal.overflow_cast-arrays_end
overflow_cast-arrays_end c =
    let r = (next (next (next (next (after c.requires.needed c.requires.fits c.requires.counts c.requires.front) c.in_ok-lists.ensures.ok) c.in_ok-codes.ensures.ok) c.in_ok-texts.ensures.ok) c.in_ok-arrays.ensures.ok).small in
    omega (arith, r, c.len-arrays_end.ensures, c.put_arrays.new.out.ok.0)

pub put_datas-requires-clause-front : goal.put_datas-requires-clause-front
put_datas-requires-clause-front c = (next (next (next (next (after c.requires.needed c.requires.fits c.requires.counts c.requires.front) c.in_ok-lists.ensures.ok) c.in_ok-codes.ensures.ok) c.in_ok-texts.ensures.ok) c.in_ok-arrays.ensures.ok).some

pub put_datas-requires-clause-room : goal.put_datas-requires-clause-room
put_datas-requires-clause-room c =
    let r = (next (next (next (next (after c.requires.needed c.requires.fits c.requires.counts c.requires.front) c.in_ok-lists.ensures.ok) c.in_ok-codes.ensures.ok) c.in_ok-texts.ensures.ok) c.in_ok-arrays.ensures.ok).small in
    omega (arith, r)

pub put_datas-requires-clause-few : goal.put_datas-requires-clause-few
put_datas-requires-clause-few c =
    few_of c.args.ranks.now (view.program c.args.program.now) (room_of c.args.ranks.now (view.program c.args.program.now) c.requires.needed c.requires.fits)

pub put_datas-requires-clause-rise : goal.put_datas-requires-clause-rise
put_datas-requires-clause-rise c =
    λ i k there. (c.requires.formed.rules i k there).members

pub put_datas-requires-clause-codes : goal.put_datas-requires-clause-codes
put_datas-requires-clause-codes c =
    ap length c.deref.ensures.value ∙ zip_length (Refers is_bodiless c.in_ok-codes.ensures.ok.lays.items) _ (body_values (view.program c.args.program.now)) c.in_ok-codes.ensures.ok.lays.each

pub overflow_cast-datas_end : goal.overflow_cast-datas_end
overflow_cast-datas_end c =
    let d = rw c.deref.ensures.value at c.in_ok-datas.ensures.ok in
    let w = room_of_sited (view.program c.args.program.now) c.in_ok-codes.codes.places.items in
    omega (arith, (next (next (next (next (after c.requires.needed c.requires.fits c.requires.counts c.requires.front) c.in_ok-lists.ensures.ok) c.in_ok-codes.ensures.ok) c.in_ok-texts.ensures.ok) c.in_ok-arrays.ensures.ok).small, d.bound, w, c.len-datas_end.ensures, c.put_datas.new.out.ok.0)

pub returns-clause-ok : goal.returns-clause-ok
returns-clause-ok c =
    let s = c.args.ranks.now in
    let p = view.program c.args.program.now in
    let r = room_of s p c.requires.needed c.requires.fits in
    let f : length c.args.out.now.items ≡ tables_end (rows_of s p) = c.requires.front ∙ ap tables_end c.requires.counts in
    let e0 = c.len-tables.ensures ∙ c.args.out.now.ok.0 in
    let e1 = c.len-lists_end.ensures ∙ c.put_lists.new.out.ok.0 in
    let e2 = c.len-codes_end.ensures ∙ c.put_codes.new.out.ok.0 in
    let e3 = c.len-texts_end.ensures ∙ c.put_strings.new.out.ok.0 in
    let e4 = c.len-arrays_end.ensures ∙ c.put_arrays.new.out.ok.0 in
    let e5 = c.len-datas_end.ensures ∙ c.put_datas.new.out.ok.0 in
    let at : Places = record { lists = c.in_ok-lists.lists.places.items; codes = c.in_ok-codes.codes.places.items; texts = c.in_ok-texts.texts.places.items; arrays = c.in_ok-arrays.arrays.places.items; datas = c.in_ok-datas.datas.places.items } in
    let d = rw c.deref.ensures.value at c.in_ok-datas.ensures.ok in
    rw (c.laid.ensures, c.requires.counts, e0, e1, e2, e3, e4, e5)
    (laid s p r c.args.out.now.items c.put_lists.new.out.items c.put_codes.new.out.items c.put_strings.new.out.items c.put_arrays.new.out.items c.put_datas.new.out.items at (record { lists = c.in_ok-lists.lists.items; codes = c.in_ok-codes.codes.items; texts = c.in_ok-texts.texts.items; arrays = c.in_ok-arrays.arrays.items; datas = c.in_ok-datas.datas.items }) f
    (record { lists = c.in_ok-lists.ensures.ok; codes = c.in_ok-codes.ensures.ok; texts = c.in_ok-texts.ensures.ok; arrays = c.in_ok-arrays.ensures.ok; datas = d; once = record { lists = c.in_ok-lists.ensures.once; codes = c.in_ok-codes.ensures.once; texts = c.in_ok-texts.ensures.once; arrays = c.in_ok-arrays.ensures.once; datas = datas_shared p c.requires.formed _ _ } }))

pub laid-requires : goal.laid-requires
laid-requires c =
    let r = (next (after c.requires.needed c.requires.fits c.requires.counts c.requires.front) c.in_ok-lists.ensures.ok).small in
    omega (arith, r, c.len-lists_end.ensures, c.put_lists.new.out.ok.0)
