use Rattle.dex_base.proofs.OptionLaws.{IfNone-always}
use Rattle.std.proofs.Common.{ℕ}
use Rattle.dex_base.specs.Leb128.{Spells}
use Rattle.dex_base.proofs.Numbers.{spells_unique}
use Rattle.dex_base.proofs.TakesLaws.{Takes-then}
use Rattle.file_classes.specs.ClassData.{SpellsMethodEntry}
use Rattle.file_classes.specs.inner.Reading.{method_entry}
use Rattle.file_classes.proofs.class_data.take_counts.Goals as goal
use Rattle.dex_base.proofs.ViaLaws.{second-none}

pub returns-in_err-others-clause-none : goal.returns-in_err-others-clause-none
returns-in_err-others-clause-none c =
    IfNone-always _ (second-none Spells (λ (_ : ℕ). SpellsMethodEntry Spells) c.args.bytes.now c.in_ok-statics.after.now c.in_ok-statics.statics spells_unique c.in_ok-statics.ensures.found c.in_err-others.ensures.none)

pub returns-clause-found : goal.returns-clause-found
returns-clause-found c =
    Takes-then Spells (λ (_ : ℕ). SpellsMethodEntry Spells) c.args.bytes.now c.in_ok-statics.after.now c.in_ok-others.rest.now c.in_ok-statics.statics (method_entry c.in_ok-others.others) c.in_ok-statics.ensures.found c.in_ok-others.ensures.found
