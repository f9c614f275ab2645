use Rattle.tables_names.specs.Closure.{NameRanks}
use Rattle.code_write.proofs.LoweredLaws.{lowered-spells}
use Rattle.code_write.proofs.code_laws.lowered_is_spelled.Goals as goal

pub returns : goal.returns
returns c = λ ranks is rs low targeted used. lowered-spells (NameRanks ranks) is rs low targeted used
