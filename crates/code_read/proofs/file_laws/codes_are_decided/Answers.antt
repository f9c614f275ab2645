use Rattle.code_read.proofs.CodesDecided.{code-decided}
use Rattle.code_read.proofs.file_laws.codes_are_decided.Goals as goal

pub returns : goal.returns
returns c = code-decided
