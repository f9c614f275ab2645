use Rattle.dexasm_command.proofs.Putting.{puts}
use Rattle.dexasm_command.proofs.serving.hold_back.Goals as goal

pub returns-clause-reported : goal.returns-clause-reported
returns-clause-reported g c = puts _ _ _ _ c.write_all.result c.write_all.ensures
