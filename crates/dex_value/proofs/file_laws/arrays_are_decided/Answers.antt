use Rattle.dex_value.proofs.ArraysDecided as law
use Rattle.dex_value.proofs.file_laws.arrays_are_decided.Goals as goal

pub returns : goal.returns
returns c = law.arrays_are_decided
