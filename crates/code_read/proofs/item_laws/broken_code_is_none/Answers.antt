use Rattle.tables_rows.specs.Names.{NameIsAt}
use Rattle.code_read.proofs.StandLaws.{NameIsAt-functional}
use Rattle.code_read.proofs.CodeLaws.{broken_none, past_none}
use Rattle.code_read.proofs.item_laws.broken_code_is_none.Goals as goal

pub returns-clause-body : goal.returns-clause-body
returns-clause-body c = λ names. broken_none (NameIsAt names) (NameIsAt-functional names)

pub returns-clause-code : goal.returns-clause-code
returns-clause-code c = λ names b framed off e d. past_none (NameIsAt names) (NameIsAt-functional names) b framed off e d
