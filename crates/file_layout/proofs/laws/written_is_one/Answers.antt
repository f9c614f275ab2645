use Rattle.file_layout.proofs.FrontOnce.{written_once}
use Rattle.file_layout.proofs.laws.written_is_one.Goals as goal

pub returns : goal.returns
returns c = written_once
