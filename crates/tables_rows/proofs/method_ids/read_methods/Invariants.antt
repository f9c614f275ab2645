use Rattle.std.proofs.Common.{map}
use Rattle.program_types.specs.View.{method_ref}
use Rattle.tables_rows.specs.inner.Reading.{AreFirst}
use Rattle.tables_rows.specs.TableFaults.{MethodHolds}
use Rattle.tables_rows.specs.Stands.{MethodStands}
use Rattle.tables_rows.proofs.method_ids.read_methods.Given as goal

abbrev pub invariant-loop-i : goal.invariant-loop-i
invariant-loop-i l = AreFirst MethodStands MethodHolds l.sections l.i (map method_ref l.methods.items)
