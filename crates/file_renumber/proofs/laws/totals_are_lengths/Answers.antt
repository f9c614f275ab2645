use Rattle.file_renumber.proofs.RankLemmas as law
use Rattle.file_renumber.proofs.laws.totals_are_lengths.Goals as goal

pub returns : goal.returns
returns c = law.totals_are_lengths
