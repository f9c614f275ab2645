use Rattle.file_renumber.proofs.RankLemmas as law
use Rattle.file_renumber.proofs.laws.kept_rows_are_ranks.Goals as goal

pub returns-clause-names : goal.returns-clause-names
returns-clause-names c = law.kept_rows_are_ranks

pub returns-clause-protos : goal.returns-clause-protos
returns-clause-protos c = law.kept_protos_are_ranks
