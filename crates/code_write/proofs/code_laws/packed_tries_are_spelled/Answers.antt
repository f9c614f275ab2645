use Rattle.tables_names.specs.Closure.{NameRanks}
use Rattle.code_write.proofs.PackedTries.{tries-spelled}
use Rattle.code_write.proofs.code_laws.packed_tries_are_spelled.Goals as goal

pub returns : goal.returns
returns c = λ ranks is ts list offs formed fit handlers few near. tries-spelled is ts formed fit (NameRanks ranks) list offs handlers few near
