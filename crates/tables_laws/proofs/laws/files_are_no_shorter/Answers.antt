use Rattle.tables_laws.proofs.FileLemmas as law
use Rattle.tables_laws.proofs.laws.files_are_no_shorter.Goals as goal

pub returns : goal.returns
returns c = law.files_are_no_shorter
