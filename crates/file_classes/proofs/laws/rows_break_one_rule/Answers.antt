use Rattle.file_classes.proofs.RowFaults.{class_number}
use Rattle.file_classes.proofs.OneFault.{values_one_fault, bodies_one_fault, registers_of_row_one_fault}
use Rattle.file_classes.proofs.laws.rows_break_one_rule.Goals as goal

pub returns-clause-rows : goal.returns-clause-rows
returns-clause-rows c = λ b framed i m n. class_number b framed i m n

pub returns-clause-values : goal.returns-clause-values
returns-clause-values c = λ b framed i e f. values_one_fault b framed i e f

pub returns-clause-code : goal.returns-clause-code
returns-clause-code c = λ b framed i e f. bodies_one_fault b framed i e f

pub returns-clause-registers : goal.returns-clause-registers
returns-clause-registers c = λ b framed i e f. registers_of_row_one_fault b framed i e f
