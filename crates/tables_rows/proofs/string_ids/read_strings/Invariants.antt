use Rattle.std.proofs.Common.{map}
use Rattle.program_types.specs.View.{str}
use Rattle.tables_rows.specs.inner.Reading.{AreFirst}
use Rattle.tables_rows.specs.TableFaults.{StringHolds}
use Rattle.tables_rows.specs.Stands.{StringStands}
use Rattle.tables_rows.proofs.string_ids.read_strings.Given as goal

abbrev pub invariant-loop-i : goal.invariant-loop-i
invariant-loop-i l = AreFirst StringStands StringHolds l.sections l.i (map str l.strings.items)
