use Rattle.file_put.proofs.RowsOnce.{name_rows_once, class_rows_once}
use Rattle.file_put.proofs.row_laws.rows_are_one.Goals as goal

pub returns-clause-names : goal.returns-clause-names
returns-clause-names c = λ s rising texts lists a b p q. name_rows_once s rising texts lists a b p q

pub returns-clause-classes : goal.returns-clause-classes
returns-clause-classes c = λ s rising a b vs p q. class_rows_once s rising a b vs p q
