use Rattle.file_classes.proofs.RowFaults.{row_keeps}
use Rattle.file_classes.proofs.laws.rows_that_hold_keep_the_rules.Goals as goal

pub returns : goal.returns
returns c = λ b framed i holds. row_keeps b framed i holds
