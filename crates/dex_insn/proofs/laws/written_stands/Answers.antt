use Rattle.dex_insn.proofs.StandingLaws.{written-stands}
use Rattle.dex_insn.proofs.laws.written_stands.Goals as goal

pub returns : goal.returns
returns c = written-stands
