use Rattle.dex_insn.proofs.StandingLaws.{stands-before, stands-alone}
use Rattle.dex_insn.proofs.laws.after_is_free.Goals as goal

pub returns-clause-more : goal.returns-clause-more
returns-clause-more c = stands-before

pub returns-clause-less : goal.returns-clause-less
returns-clause-less c = stands-alone
