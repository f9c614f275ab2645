use Rattle.tables_laws.proofs.FileLemmas as law
use Rattle.tables_laws.proofs.laws.files_hold_needed.Goals as goal

pub returns : goal.returns
returns c = law.files_hold_needed
