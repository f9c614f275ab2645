use Rattle.tables_rows.specs.Names.{NameIsAt}
use Rattle.code_read.proofs.AddressLaws.{leads-by_address}
use Rattle.code_read.proofs.insn_laws.offsets_target_by_address.Goals as goal

pub returns : goal.returns
returns c = λ names bytes code s. leads-by_address (NameIsAt names) _ s.body.raws code.insns s.body.insns
