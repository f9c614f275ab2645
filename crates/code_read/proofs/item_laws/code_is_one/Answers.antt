use Rattle.tables_rows.specs.Names.{NameIsAt}
use Rattle.code_read.proofs.StandLaws.{NameIsAt-functional}
use Rattle.code_read.proofs.CodeLaws.{code_one}
use Rattle.code_read.proofs.item_laws.code_is_one.Goals as goal

pub returns : goal.returns
returns c = λ names b framed off. code_one (NameIsAt names) (NameIsAt-functional names) b framed off
