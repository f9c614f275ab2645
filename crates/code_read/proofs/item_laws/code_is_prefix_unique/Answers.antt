use Rattle.tables_rows.specs.Names.{NameIsAt}
use Rattle.code_read.proofs.StandLaws.{NameIsAt-functional}
use Rattle.code_read.proofs.CodeLaws.{SpellsCode-unique}
use Rattle.code_read.proofs.item_laws.code_is_prefix_unique.Goals as goal

pub returns-clause-index : goal.returns-clause-index
returns-clause-index c = NameIsAt-functional

pub returns-clause-unique : goal.returns-clause-unique
returns-clause-unique c = λ names. SpellsCode-unique (NameIsAt names) (NameIsAt-functional names)
