use Rattle.tables_names.specs.Closure.{NameRanks}
use Rattle.code_write.proofs.HandlerOnce.{ranks-injective}
use Rattle.code_write.proofs.CodeOnce.{code_once}
use Rattle.code_write.proofs.code_laws.packed_is_one.Goals as goal

pub returns : goal.returns
returns c = λ ranks rising code a b formed i j p q. code_once (NameRanks ranks) (ranks-injective ranks rising) code a b formed i j p q
