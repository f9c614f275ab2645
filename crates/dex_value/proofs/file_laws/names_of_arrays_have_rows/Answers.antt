use Rattle.dex_value.proofs.FileFaults as law
use Rattle.dex_value.proofs.file_laws.names_of_arrays_have_rows.Goals as goal

pub returns : goal.returns
returns c = law.names_have_rows
