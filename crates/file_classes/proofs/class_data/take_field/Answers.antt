use Rattle.dex_base.proofs.OptionLaws.{IfNone-always}
use Rattle.dex_base.specs.Leb128.{Spells}
use Rattle.dex_base.proofs.Numbers.{spells_unique}
use Rattle.dex_base.proofs.TakesLaws.{Takes-then}
use Rattle.file_classes.proofs.class_data.take_field.Goals as goal
use Rattle.std.proofs.Common.{ℕ}
use Rattle.dex_base.proofs.ViaLaws.{second-none}

pub returns-in_err-flags-clause-none : goal.returns-in_err-flags-clause-none
returns-in_err-flags-clause-none c =
    IfNone-always _ (second-none Spells (λ (_ : ℕ). Spells) c.args.bytes.now c.in_ok-step.after.now c.in_ok-step.step spells_unique c.in_ok-step.ensures.found c.in_err-flags.ensures.none)

pub returns-clause-found : goal.returns-clause-found
returns-clause-found c =
    Takes-then Spells (λ (_ : ℕ). Spells) c.args.bytes.now c.in_ok-step.after.now c.in_ok-flags.rest.now c.in_ok-step.step c.in_ok-flags.flags c.in_ok-step.ensures.found c.in_ok-flags.ensures.found
