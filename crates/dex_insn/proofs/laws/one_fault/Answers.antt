use Rattle.dex_insn.proofs.Flaws.{one_fault}
use Rattle.dex_insn.proofs.laws.one_fault.Goals as goal

pub returns : goal.returns
returns c = one_fault
