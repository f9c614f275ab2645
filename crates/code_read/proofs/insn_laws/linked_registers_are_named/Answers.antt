use Rattle.code_read.proofs.LinkLaws.{registers-linked}
use Rattle.code_read.proofs.insn_laws.linked_registers_are_named.Goals as goal

pub returns : goal.returns
returns c = registers-linked
