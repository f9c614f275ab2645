use Rattle.dex_insn.proofs.StandingLaws.{stands-clear}
use Rattle.dex_insn.proofs.laws.clear_where_one_stands.Goals as goal

pub returns : goal.returns
returns c = stands-clear
