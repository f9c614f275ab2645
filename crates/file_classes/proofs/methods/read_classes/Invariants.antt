use Rattle.std.proofs.Common.{map}
use Rattle.program_types.specs.View.{class}
use Rattle.tables_rows.specs.inner.Reading.{AreFirst}
use Rattle.file_classes.specs.ClassFaults.{BodiesHold}
use Rattle.file_classes.specs.inner.Reading.{AreCodesOf, SpellsBodies}
use Rattle.file_classes.proofs.MethodLaws.{RowsUpTo}
use Rattle.file_classes.proofs.methods.read_classes.Given as goal

abbrev pub invariant-loop-i : goal.invariant-loop-i
invariant-loop-i l = record {
  rows : AreFirst SpellsBodies BodiesHold l.sections l.i (map class l.classes.items);
  past : RowsUpTo l.sections l.i l.past;
  codes : AreCodesOf l.sections l.codes;
}
