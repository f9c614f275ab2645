use Rattle.std.proofs.Common.{sym, true≢false}
use Rattle.tables_rows.proofs.ClearRows.{field_order}
use Rattle.tables_rows.proofs.field_ids.next_field.Goals as goal

pub returns-then-not-rises-clause-err : goal.returns-then-not-rises-clause-err
returns-then-not-rises-clause-err c = rw c.at.ensures (record { breaks = field_order _ _ c.in_ok-field.ensures.ok (λ up. true≢false (sym (c.if-not-rises.ensures.1 up))); place = c.member_row.ensures })
