use Rattle.tables_names.specs.Closure.{NameRanks}
use Rattle.tables_rows.specs.Names.{NameIsAt}
use Rattle.dex_value.proofs.Weaker.{SpellsArray-weaker}
use Rattle.dex_value.proofs.laws.array_carries_over.Goals as goal

pub returns : goal.returns
returns c = λ ranks names implies bytes vs s. SpellsArray-weaker (NameRanks ranks) (NameIsAt names) implies bytes vs s
