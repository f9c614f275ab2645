use Rattle.std.proofs.Common.{refl, sym, true≢false}
use Rattle.program_types.specs.View.{str}
use Rattle.tables_rows.proofs.ClearRows.{string_order}
use Rattle.tables_rows.proofs.RowReading.{string_rises, string_falls}
use Rattle.tables_rows.proofs.string_ids.next_string.Goals as goal

pub returns-then-not-is_above_last-clause-err : goal.returns-then-not-is_above_last-clause-err
returns-then-not-is_above_last-clause-err c = λ _. rw c.at.ensures (record {
  breaks = string_order _ _ c.in_ok-string.ensures.ok
      (string_falls _ c.args.i _ (str c.in_ok-string.string) c.requires.first.each c.requires.first.count c.in_ok-string.ensures.ok (λ below. true≢false (sym (c.if-not-is_above_last.ensures.1 below))));
  place = c.string_row.ensures;
})

pub returns-clause-holds : goal.returns-clause-holds
returns-clause-holds c = record {
  name = str c.in_ok-string.string;
  stands = c.in_ok-string.ensures.ok;
  rises = string_rises _ c.args.i _ (str c.in_ok-string.string) c.requires.framed c.requires.first.each c.requires.first.count c.in_ok-string.ensures.ok (c.if-not-is_above_last.ensures.0 refl);
}
