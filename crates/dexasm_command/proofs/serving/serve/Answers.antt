use Rattle.std.proofs.Common.{refl}
use Rattle.clap.specs.Words.{kind_of}
use Rattle.dexasm_command.proofs.Misusing.{misused}
use Rattle.dexasm_command.proofs.serving.serve.Goals as goal

pub returns-in-Err : goal.returns-in-Err
returns-in-Err g c = misused _ (kind_of c.in-Err.error) c.in-Err.ensures.kinds refl c.misuse.ensures
