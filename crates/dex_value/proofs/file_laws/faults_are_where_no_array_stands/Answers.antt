use Rattle.dex_value.proofs.FileFaults as law
use Rattle.dex_value.proofs.file_laws.faults_are_where_no_array_stands.Goals as goal

pub returns-clause-clear : goal.returns-clause-clear
returns-clause-clear c = law.stands_without_fault

pub returns-clause-stands : goal.returns-clause-stands
returns-clause-stands c = law.stands_where_no_fault
