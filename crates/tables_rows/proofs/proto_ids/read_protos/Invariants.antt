use Rattle.std.proofs.Common.{map}
use Rattle.program_types.specs.View.{proto}
use Rattle.tables_rows.specs.inner.Cached.{AreCached}
use Rattle.tables_rows.specs.inner.Known.{IsKnown}
use Rattle.tables_rows.specs.inner.Reading.{AreFirst}
use Rattle.tables_rows.specs.TableFaults.{ProtoHolds}
use Rattle.tables_rows.specs.Stands.{ProtoStands}
use Rattle.tables_rows.proofs.proto_ids.read_protos.Given as goal

abbrev pub invariant-loop-i : goal.invariant-loop-i
invariant-loop-i l = AreFirst ProtoStands ProtoHolds l.sections l.i (map proto l.protos.items) × AreCached (IsKnown l.sections) l.cached
