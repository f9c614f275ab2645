use Rattle.code_read.proofs.Carrying as law
use Rattle.code_read.proofs.file_laws.codes_carry_over.Goals as goal

pub returns-clause-stands : goal.returns-clause-stands
returns-clause-stands c = law.code_stands

pub returns-clause-breaks : goal.returns-clause-breaks
returns-clause-breaks c = law.code_breaks

pub returns-clause-overruns : goal.returns-clause-overruns
returns-clause-overruns c = law.code_overruns
