use Rattle.tables_names.specs.Closure.{NameRanks}
use Rattle.code_write.proofs.PackedLaws.{packed-spells}
use Rattle.code_write.proofs.code_laws.packed_is_spelled.Goals as goal

pub returns : goal.returns
returns c = λ ranks code bytes formed fits short packed. packed-spells (NameRanks ranks) code formed fits short bytes packed
