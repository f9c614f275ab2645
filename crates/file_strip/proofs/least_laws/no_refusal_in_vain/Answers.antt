use Rattle.file_strip.proofs.VainLaws.{meant, without_file}
use Rattle.file_strip.proofs.least_laws.no_refusal_in_vain.Goals as goal

pub returns-clause-meant : goal.returns-clause-meant
returns-clause-meant c = meant

pub returns-clause-without_file : goal.returns-clause-without_file
returns-clause-without_file c = without_file
