use Rattle.std.proofs.Common.{◌≡◌}
use Rattle.file_read.specs.inner.ByClass.{rows_left}
use Rattle.dexasm_run.specs.inner.Listed.{HasPrinted}
use Rattle.dexasm_run.proofs.answers.list.Given as goal

abbrev pub invariant-loop-text : goal.invariant-loop-text
invariant-loop-text l = record {
  listed : HasPrinted l.text.items l.reader;
  bytes : l.reader.sections ≡ l.given;
}

abbrev pub decreases-loop-text : goal.decreases-loop-text
decreases-loop-text l = rows_left l.reader
