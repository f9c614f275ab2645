use Rattle.tables_rows.specs.Names.{NameIsAt}
use Rattle.dex_value.proofs.FrontLaws.{SpellsArray-unique}
use Rattle.dex_value.proofs.Namings.{NameIsAt-functional}
use Rattle.dex_value.proofs.laws.array_is_prefix_unique.Goals as goal

pub returns-clause-index : goal.returns-clause-index
returns-clause-index c = NameIsAt-functional

pub returns-clause-unique : goal.returns-clause-unique
returns-clause-unique c = λ names. SpellsArray-unique (NameIsAt names) (NameIsAt-functional names)
