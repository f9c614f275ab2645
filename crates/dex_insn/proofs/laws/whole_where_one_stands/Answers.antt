use Rattle.dex_insn.proofs.StandingLaws.{stands-whole}
use Rattle.dex_insn.proofs.laws.whole_where_one_stands.Goals as goal

pub returns : goal.returns
returns c = stands-whole
