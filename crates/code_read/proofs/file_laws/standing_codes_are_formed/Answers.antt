use Rattle.code_read.proofs.CodesFormed.{standing-formed}
use Rattle.code_read.proofs.file_laws.standing_codes_are_formed.Goals as goal

pub returns : goal.returns
returns c = standing-formed
