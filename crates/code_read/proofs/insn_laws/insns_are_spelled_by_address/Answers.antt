use Rattle.tables_rows.specs.Names.{NameIsAt}
use Rattle.code_read.proofs.AddressLaws.{to-by_address, from-by_address}
use Rattle.code_read.proofs.insn_laws.insns_are_spelled_by_address.Goals as goal

pub returns : goal.returns
returns c = λ names us rs is. (to-by_address (NameIsAt names) us rs is, from-by_address (NameIsAt names) us rs is)
