use Rattle.std.proofs.Common.{map}
use Rattle.program_types.specs.View.{desc}
use Rattle.tables_rows.specs.inner.Reading.{AreFirst}
use Rattle.tables_rows.specs.TableFaults.{TypeHolds}
use Rattle.tables_rows.specs.Stands.{TypeStands}
use Rattle.tables_rows.proofs.type_ids.read_types.Given as goal

abbrev pub invariant-loop-i : goal.invariant-loop-i
invariant-loop-i l = AreFirst TypeStands TypeHolds l.sections l.i (map desc l.types.items)
