use Rattle.tables_rows.specs.Names.{NameIsAt}
use Rattle.code_read.proofs.StandLaws.{NameIsAt-functional}
use Rattle.code_read.proofs.OneItemFault.{code_one_fault, registers_one_fault}
use Rattle.code_read.proofs.item_laws.one_fault.Goals as goal

pub returns-clause-body : goal.returns-clause-body
returns-clause-body c = λ names. code_one_fault (NameIsAt names) (NameIsAt-functional names)

pub returns-clause-registers : goal.returns-clause-registers
returns-clause-registers c = λ names. registers_one_fault (NameIsAt names) (NameIsAt-functional names)
