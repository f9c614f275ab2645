use Rattle.tables_names.specs.Closure.{NameRanks}
use Rattle.dex_value.proofs.Lengths.{SpellsArray-most}
use Rattle.dex_value.proofs.Places.{SpellsArray-least}
use Rattle.dex_value.proofs.laws.array_is_short.Goals as goal

pub returns-clause-some : goal.returns-clause-some
returns-clause-some c = λ ranks bytes vs s. SpellsArray-least (NameRanks ranks) bytes vs s

pub returns-clause-wide : goal.returns-clause-wide
returns-clause-wide c = λ ranks bytes vs s. SpellsArray-most (NameRanks ranks) bytes vs s
