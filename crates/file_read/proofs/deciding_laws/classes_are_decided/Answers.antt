use Rattle.file_read.proofs.ClassesDecided as law
use Rattle.file_read.proofs.deciding_laws.classes_are_decided.Goals as goal

pub returns : goal.returns
returns c = law.classes_are_decided
