use Rattle.tables_laws.proofs.FileLemmas as law
use Rattle.tables_laws.proofs.laws.names_rise.Goals as goal

pub returns : goal.returns
returns c = law.names_rise
