use Rattle.std.proofs.Common.{arith}
use Rattle.tables_rows.specs.Sorted.{ProtoIsBelow}
use Rattle.tables_rows.proofs.RowReading.{rises_from, rises_to}
use Rattle.tables_rows.proofs.proto_ids.rises.Goals as goal

pub returns-else-i-eq0 : goal.returns-else-i-eq0
returns-else-i-eq0 c = (λ is. rises_from ProtoIsBelow _ c.args.i (omega (arith, c.if-i-eq0.false)) (c.is_below.ensures.0 is), λ up. c.is_below.ensures.1 (rises_to ProtoIsBelow _ c.args.i (omega (arith, c.if-i-eq0.false)) up))
