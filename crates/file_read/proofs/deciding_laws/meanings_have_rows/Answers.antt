use Rattle.file_read.proofs.WellLaws as law
use Rattle.file_read.proofs.deciding_laws.meanings_have_rows.Goals as goal

pub returns : goal.returns
returns c = law.program_rows
