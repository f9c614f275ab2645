use Rattle.std.proofs.Common.{sym, true≢false}
use Rattle.tables_rows.proofs.ClearRows.{method_order}
use Rattle.tables_rows.proofs.method_ids.next_method.Goals as goal

pub returns-then-not-rises-clause-err : goal.returns-then-not-rises-clause-err
returns-then-not-rises-clause-err c = rw c.at.ensures (record { breaks = method_order _ _ c.in_ok-method.ensures.ok (λ up. true≢false (sym (c.if-not-rises.ensures.1 up))); place = c.member_row.ensures })
