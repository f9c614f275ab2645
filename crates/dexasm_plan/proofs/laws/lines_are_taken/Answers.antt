use Rattle.std.proofs.Common.{refl}
use Rattle.clap.proofs.OnLiterals.{clap_on_literals}
use Rattle.dexasm_plan.specs.Commands.{dexasm}
use Rattle.dexasm_plan.proofs.laws.lines_are_taken.Goals as goal

pub returns : goal.returns
unfolding dexasm clap_on_literals
returns c = record { check = refl; file = refl; short = refl; align = refl }
