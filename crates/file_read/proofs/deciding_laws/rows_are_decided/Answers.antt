use Rattle.file_read.proofs.ClassesDecided as classes
use Rattle.file_read.proofs.FileDecided as file
use Rattle.file_read.proofs.deciding_laws.rows_are_decided.Goals as goal

pub returns-clause-class : goal.returns-clause-class
returns-clause-class c = classes.row_is_decided

pub returns-clause-values : goal.returns-clause-values
returns-clause-values c = file.value_row

pub returns-clause-code : goal.returns-clause-code
returns-clause-code c = file.bodies_decided

pub returns-clause-registers : goal.returns-clause-registers
returns-clause-registers c = file.registers_decided
