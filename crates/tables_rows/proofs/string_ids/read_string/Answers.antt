use Rattle.tables_rows.proofs.ClearRows.{string_spelling}
use Rattle.tables_rows.proofs.RowReading.{string_read, string_none}
use Rattle.tables_rows.proofs.string_ids.read_string.Goals as goal

pub returns-in-Some-2-clause-ok : goal.returns-in-Some-2-clause-ok
returns-in-Some-2-clause-ok c =
    string_read _ _ c.args.texts c.args.i _ _ _ c.requires.section c.in-Some.ensures.value c.string_place-place.ensures c.requires.row c.in-Some.ensures.low c.in-Some.ensures.high (rw c.in-Some-2.is at c.in_ok-units.ensures.found)

pub returns-in-None-clause-err : goal.returns-in-None-clause-err
returns-in-None-clause-err c = λ _. rw c.at-in-None.ensures (record {
  breaks = string_spelling _ _ (rw (← c.string_place-place.ensures) c.in-Some.ensures.some)
      (string_none _ _ c.args.texts c.args.i _ c.requires.section c.in-Some.ensures.value c.string_place-place.ensures (rw c.in-None.is at c.in_ok-units.ensures.none));
  place = c.string_row-row.ensures;
})
