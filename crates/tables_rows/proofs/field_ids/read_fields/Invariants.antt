use Rattle.std.proofs.Common.{map}
use Rattle.program_types.specs.View.{field_ref}
use Rattle.tables_rows.specs.inner.Reading.{AreFirst}
use Rattle.tables_rows.specs.TableFaults.{FieldHolds}
use Rattle.tables_rows.specs.Stands.{FieldStands}
use Rattle.tables_rows.proofs.field_ids.read_fields.Given as goal

abbrev pub invariant-loop-i : goal.invariant-loop-i
invariant-loop-i l = AreFirst FieldStands FieldHolds l.sections l.i (map field_ref l.fields.items)
