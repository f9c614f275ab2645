use Rattle.tables_rows.specs.Names.{NameIsAt}
use Rattle.dex_value.proofs.Namings.{NameIsAt-functional}
use Rattle.dex_value.proofs.OneFault.{array_one_fault}
use Rattle.dex_value.proofs.laws.one_fault.Goals as goal

pub returns : goal.returns
returns c = λ names. array_one_fault (NameIsAt names) (NameIsAt-functional names)
