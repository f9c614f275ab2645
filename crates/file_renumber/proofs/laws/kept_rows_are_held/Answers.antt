use Rattle.file_renumber.proofs.RankLemmas as law
use Rattle.file_renumber.proofs.laws.kept_rows_are_held.Goals as goal

pub returns : goal.returns
returns c = law.kept_rows_are_held
