use Rattle.dex_value.proofs.Carrying as law
use Rattle.dex_value.proofs.file_laws.arrays_carry_over.Goals as goal

pub returns-clause-stands : goal.returns-clause-stands
returns-clause-stands c = law.file_stands

pub returns-clause-breaks : goal.returns-clause-breaks
returns-clause-breaks c = law.file_breaks

pub returns-clause-one : goal.returns-clause-one
returns-clause-one c = law.file_array_unique
