use Rattle.file_write.proofs.Classes.{classes_in_order, classes_stand}
use Rattle.file_write.proofs.laws.assembled_classes_stand.Goals as goal

pub returns-clause-classes : goal.returns-clause-classes
returns-clause-classes c = λ b p well fits file. classes_stand b p file well fits

pub returns-clause-order : goal.returns-clause-order
returns-clause-order c = λ b p well fits file. classes_in_order b p file well fits
