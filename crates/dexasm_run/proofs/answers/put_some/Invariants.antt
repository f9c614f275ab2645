use Rattle.std.proofs.Common.{◌≡◌, ◌≤◌}
use Rattle.file_classes.specs.inner.Reading.{AreCodesOf}
use Rattle.file_read.specs.inner.ByClass.{rows_left}
use Rattle.dexasm_run.specs.inner.Listed.{HasPrinted}
use Rattle.dexasm_run.proofs.answers.put_some.Given as goal

abbrev pub invariant-loop-codes : goal.invariant-loop-codes
invariant-loop-codes l = record {
  listed : HasPrinted l.text.items l.reader;
  codes : AreCodesOf l.reader.sections l.codes;
  bytes : l.reader.sections ≡ l.fn.reader.sections;
  fewer : rows_left l.reader ≤ rows_left l.fn.reader;
}

abbrev pub decreases-loop-codes : goal.decreases-loop-codes
decreases-loop-codes l = rows_left l.reader
