use Rattle.std.proofs.Common.{◌≡◌, length, ap, ◌∙◌, arith}
use Rattle.file_layout.specs.inner.Plan.{tables_end}
use Rattle.file_layout.specs.inner.Tiles.{Refers}
use Rattle.file_limits.specs.inner.Wide.{body_values}
use Rattle.file_put.specs.inner.Codes.{is_bodiless}
use Rattle.file_put.proofs.SitedLaws.{room_of_sited}
use Rattle.file_put.specs.inner.Assembled.{Places, rows_of}
use Rattle.file_put.proofs.DataParts.{laid}
use Rattle.file_put.proofs.OnceLaws.{datas_shared}
use Rattle.tables_names.specs.Needed.{needed}
use Rattle.file_strip.proofs.ReadyLaws.{and_laid, first, room}
use Rattle.file_strip.proofs.stripping.put_data.Goals as goal
use Rattle.dex_base.proofs.ListFacts.{zip_length, passed}

pub overflow_cast-tables : goal.overflow_cast-tables
overflow_cast-tables c =
    let s = first c.requires.ready c.requires.counts c.requires.front in
    omega (arith, s.room.small, c.len-tables.ensures, c.args.out.now.ok.0)

pub put_lists-requires-clause-front : goal.put_lists-requires-clause-front
put_lists-requires-clause-front c = (first c.requires.ready c.requires.counts c.requires.front).room.some

pub put_lists-requires-clause-kept : goal.put_lists-requires-clause-kept
put_lists-requires-clause-kept c =
    let s = first c.requires.ready c.requires.counts c.requires.front in
    (s.program, s.ready.keeps, omega (arith, s.room.small))

pub overflow_cast-lists_end : goal.overflow_cast-lists_end
overflow_cast-lists_end c =
    let s = and_laid (first c.requires.ready c.requires.counts c.requires.front) c.in_ok-lists.ensures.ok in
    omega (arith, s.room.small, c.len-lists_end.ensures, c.put_lists.new.out.ok.0)

pub put_codes-requires-clause-front : goal.put_codes-requires-clause-front
put_codes-requires-clause-front c = (and_laid (first c.requires.ready c.requires.counts c.requires.front) c.in_ok-lists.ensures.ok).room.some

pub put_codes-requires-clause-kept : goal.put_codes-requires-clause-kept
put_codes-requires-clause-kept c =
    let s = and_laid (first c.requires.ready c.requires.counts c.requires.front) c.in_ok-lists.ensures.ok in
    (s.program, s.ready.keeps, omega (arith, s.room.small))

pub overflow_cast-codes_end : goal.overflow_cast-codes_end
overflow_cast-codes_end c =
    let s = and_laid (and_laid (first c.requires.ready c.requires.counts c.requires.front) c.in_ok-lists.ensures.ok) c.in_ok-codes.ensures.ok in
    omega (arith, s.room.small, c.len-codes_end.ensures, c.put_codes.new.out.ok.0)

pub put_strings-requires-clause-front : goal.put_strings-requires-clause-front
put_strings-requires-clause-front c = (and_laid (and_laid (first c.requires.ready c.requires.counts c.requires.front) c.in_ok-lists.ensures.ok) c.in_ok-codes.ensures.ok).room.some

pub put_strings-requires-clause-kept : goal.put_strings-requires-clause-kept
put_strings-requires-clause-kept c =
    let s = and_laid (and_laid (first c.requires.ready c.requires.counts c.requires.front) c.in_ok-lists.ensures.ok) c.in_ok-codes.ensures.ok in
    (s.program, s.ready.keeps, omega (arith, s.room.small))

pub overflow_cast-texts_end : goal.overflow_cast-texts_end
overflow_cast-texts_end c =
    let s = and_laid (and_laid (and_laid (first c.requires.ready c.requires.counts c.requires.front) c.in_ok-lists.ensures.ok) c.in_ok-codes.ensures.ok) c.in_ok-texts.ensures.ok in
    omega (arith, s.room.small, c.len-texts_end.ensures, c.put_strings.new.out.ok.0)

pub put_arrays-requires-clause-front : goal.put_arrays-requires-clause-front
put_arrays-requires-clause-front c = (and_laid (and_laid (and_laid (first c.requires.ready c.requires.counts c.requires.front) c.in_ok-lists.ensures.ok) c.in_ok-codes.ensures.ok) c.in_ok-texts.ensures.ok).room.some

pub put_arrays-requires-clause-kept : goal.put_arrays-requires-clause-kept
put_arrays-requires-clause-kept c =
    let s = and_laid (and_laid (and_laid (first c.requires.ready c.requires.counts c.requires.front) c.in_ok-lists.ensures.ok) c.in_ok-codes.ensures.ok) c.in_ok-texts.ensures.ok in
    (s.program, s.ready.keeps, omega (arith, s.room.small))

pub overflow_cast-arrays_end : goal.overflow_cast-arrays_end
overflow_cast-arrays_end c =
    let s = and_laid (and_laid (and_laid (and_laid (first c.requires.ready c.requires.counts c.requires.front) c.in_ok-lists.ensures.ok) c.in_ok-codes.ensures.ok) c.in_ok-texts.ensures.ok) c.in_ok-arrays.ensures.ok in
    omega (arith, s.room.small, c.len-arrays_end.ensures, c.put_arrays.new.out.ok.0)

pub put_datas-requires-clause-front : goal.put_datas-requires-clause-front
put_datas-requires-clause-front c = (and_laid (and_laid (and_laid (and_laid (first c.requires.ready c.requires.counts c.requires.front) c.in_ok-lists.ensures.ok) c.in_ok-codes.ensures.ok) c.in_ok-texts.ensures.ok) c.in_ok-arrays.ensures.ok).room.some

pub put_datas-requires-clause-kept : goal.put_datas-requires-clause-kept
put_datas-requires-clause-kept c =
    let s = and_laid (and_laid (and_laid (and_laid (first c.requires.ready c.requires.counts c.requires.front) c.in_ok-lists.ensures.ok) c.in_ok-codes.ensures.ok) c.in_ok-texts.ensures.ok) c.in_ok-arrays.ensures.ok in
    let codes = c.in_ok-codes.ensures.ok s.program s.ready.keeps in
    (s.program, s.ready.keeps, ap length c.deref.ensures.value ∙ zip_length (Refers is_bodiless codes.lays.items) _ (body_values s.program) codes.lays.each, omega (arith, s.room.small))

pub overflow_cast-datas_end : goal.overflow_cast-datas_end
overflow_cast-datas_end c =
    let s = and_laid (and_laid (and_laid (and_laid (first c.requires.ready c.requires.counts c.requires.front) c.in_ok-lists.ensures.ok) c.in_ok-codes.ensures.ok) c.in_ok-texts.ensures.ok) c.in_ok-arrays.ensures.ok in
    let d = rw c.deref.ensures.value at (c.in_ok-datas.ensures.ok s.program s.ready.keeps) in
    let w = room_of_sited s.program c.in_ok-codes.codes.places.items in
    omega (arith, s.room.small, d.bound, w, c.len-datas_end.ensures, c.put_datas.new.out.ok.0)

pub laid-requires : goal.laid-requires
laid-requires c =
    let s = and_laid (first c.requires.ready c.requires.counts c.requires.front) c.in_ok-lists.ensures.ok in
    omega (arith, s.room.small, c.len-lists_end.ensures, c.put_lists.new.out.ok.0)

pub returns-clause-ok : goal.returns-clause-ok
returns-clause-ok c = λ p r.
    let s = needed p in
    let f : length c.args.out.now.items ≡ tables_end (rows_of s p) = c.requires.front ∙ ap tables_end (c.requires.counts p r) in
    let e0 = c.len-tables.ensures ∙ c.args.out.now.ok.0 in
    let e1 = c.len-lists_end.ensures ∙ c.put_lists.new.out.ok.0 in
    let e2 = c.len-codes_end.ensures ∙ c.put_codes.new.out.ok.0 in
    let e3 = c.len-texts_end.ensures ∙ c.put_strings.new.out.ok.0 in
    let e4 = c.len-arrays_end.ensures ∙ c.put_arrays.new.out.ok.0 in
    let e5 = c.len-datas_end.ensures ∙ c.put_datas.new.out.ok.0 in
    let at : Places = record { lists = c.in_ok-lists.lists.places.items; codes = c.in_ok-codes.codes.places.items; texts = c.in_ok-texts.texts.places.items; arrays = c.in_ok-arrays.arrays.places.items; datas = c.in_ok-datas.datas.places.items } in
    let d = rw c.deref.ensures.value at (c.in_ok-datas.ensures.ok p r.keeps) in
    rw (c.laid.ensures, c.requires.counts p r, e0, e1, e2, e3, e4, e5)
    (laid s p (room c.args.sections.now c.args.numbers.now p r) c.args.out.now.items c.put_lists.new.out.items c.put_codes.new.out.items c.put_strings.new.out.items c.put_arrays.new.out.items c.put_datas.new.out.items at
    (record { lists = c.in_ok-lists.lists.items; codes = c.in_ok-codes.codes.items; texts = c.in_ok-texts.texts.items; arrays = c.in_ok-arrays.arrays.items; datas = c.in_ok-datas.datas.items }) f
    (record {
      lists = c.in_ok-lists.ensures.ok p r.keeps;
      codes = c.in_ok-codes.ensures.ok p r.keeps;
      texts = c.in_ok-texts.ensures.ok p r.keeps;
      arrays = c.in_ok-arrays.ensures.ok p r.keeps;
      datas = d;
      once = record { lists = c.in_ok-lists.ensures.once p r.keeps; codes = c.in_ok-codes.ensures.once p r.keeps; texts = c.in_ok-texts.ensures.once p r.keeps; arrays = c.in_ok-arrays.ensures.once p r.keeps; datas = datas_shared p r.formed _ _ };
    }))

pub returns-clause-near : goal.returns-clause-near
returns-clause-near c = λ p r. c.in_ok-codes.ensures.near p r.keeps

pub returns-in_err-codes-clause-far : goal.returns-in_err-codes-clause-far
returns-in_err-codes-clause-far c =
    passed _ _ _ c.from_residual-in_err-codes.ensures.1 (λ ne. let f = c.in_err-codes.ensures.far ne in (f.0, λ p r. f.1 p r.keeps))
