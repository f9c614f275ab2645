use Rattle.file_classes.proofs.RowFaults.{class_clear}
use Rattle.file_classes.proofs.ClearLaws.{values_clear, bodies_clear, methods_clear}
use Rattle.file_classes.proofs.laws.classes_are_clear.Goals as goal

pub returns-clause-rows : goal.returns-clause-rows
returns-clause-rows c = λ b framed i code holds. class_clear b framed i code holds

pub returns-clause-values : goal.returns-clause-values
returns-clause-values c = λ b framed i e holds. values_clear b framed i e holds

pub returns-clause-code : goal.returns-clause-code
returns-clause-code c = λ b framed i e holds. bodies_clear b framed i e holds

pub returns-clause-registers : goal.returns-clause-registers
returns-clause-registers c = λ b framed i e holds. methods_clear b framed i e holds
