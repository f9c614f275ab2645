use Rattle.dex_insn.proofs.StandingLaws.{one-stands}
use Rattle.dex_insn.proofs.laws.one_stands.Goals as goal

pub returns : goal.returns
returns c = one-stands
