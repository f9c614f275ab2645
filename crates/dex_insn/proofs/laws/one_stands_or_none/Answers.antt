use Rattle.dex_insn.proofs.Decided.{insn-decided}
use Rattle.dex_insn.proofs.laws.one_stands_or_none.Goals as goal

pub returns : goal.returns
returns c = insn-decided
