use Rattle.dexasm_command.proofs.StatusLaws.{never_lost}
use Rattle.dexasm_command.proofs.laws.out_is_never_lost.Goals as goal

pub returns : goal.returns
returns c = never_lost
