use Rattle.file_read.proofs.OneRefusal as law
use Rattle.file_read.proofs.laws.one_refusal.Goals as goal

pub returns-clause-one : goal.returns-clause-one
returns-clause-one c = law.one_refusal

pub returns-clause-none : goal.returns-clause-none
returns-clause-none c = law.none_meant
