use Rattle.file_read.proofs.RangeLaws as law
use Rattle.file_read.proofs.deciding_laws.meanings_are_well_formed.Goals as goal

pub returns : goal.returns
returns c = law.well_formed
