use Rattle.std.proofs.Common.{refl, sym, true≢false}
use Rattle.program_types.specs.View.{proto}
use Rattle.tables_rows.proofs.ClearRows.{proto_order}
use Rattle.tables_rows.proofs.proto_ids.next_proto.Goals as goal

pub returns-then-not-rises-clause-err : goal.returns-then-not-rises-clause-err
returns-then-not-rises-clause-err c = λ _. rw c.at.ensures (record { breaks = proto_order _ _ c.in_ok-proto.ensures.ok (λ up. true≢false (sym (c.if-not-rises.ensures.1 up))); place = c.proto_row.ensures })

pub returns-clause-holds : goal.returns-clause-holds
returns-clause-holds c = record { name = proto c.in_ok-proto.proto; stands = c.in_ok-proto.ensures.ok; rises = c.if-not-rises.ensures.0 refl }
