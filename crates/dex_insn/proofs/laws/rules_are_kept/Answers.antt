use Rattle.dex_insn.proofs.Flaws.{rules_kept}
use Rattle.dex_insn.proofs.laws.rules_are_kept.Goals as goal

pub returns : goal.returns
returns c = rules_kept
