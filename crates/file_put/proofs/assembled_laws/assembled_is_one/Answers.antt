use Rattle.file_put.proofs.FileOnce.{file_one}
use Rattle.file_put.proofs.assembled_laws.assembled_is_one.Goals as goal

pub returns : goal.returns
returns c = file_one
