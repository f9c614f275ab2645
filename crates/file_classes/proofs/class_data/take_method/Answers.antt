use Rattle.dex_base.proofs.OptionLaws.{IfNone-always}
use Rattle.std.proofs.Common.{ℕ}
use Rattle.dex_base.specs.Leb128.{Spells}
use Rattle.dex_base.proofs.Numbers.{spells_unique}
use Rattle.dex_base.proofs.TakesLaws.{Takes-then}
use Rattle.file_classes.specs.ClassData.{SpellsFieldEntry}
use Rattle.file_classes.specs.inner.Reading.{field_entry}
use Rattle.file_classes.proofs.class_data.take_method.Goals as goal
use Rattle.dex_base.proofs.ViaLaws.{second-none}

pub returns-in_err-field-clause-none : goal.returns-in_err-field-clause-none
returns-in_err-field-clause-none c =
    IfNone-always _ (second-none Spells (λ (_ : ℕ). SpellsFieldEntry Spells) c.args.bytes.now c.in_ok-step.after.now c.in_ok-step.step spells_unique c.in_ok-step.ensures.found c.in_err-field.ensures.none)

pub returns-clause-found : goal.returns-clause-found
returns-clause-found c =
    Takes-then Spells (λ (_ : ℕ). SpellsFieldEntry Spells) c.args.bytes.now c.in_ok-step.after.now c.in_ok-field.rest.now c.in_ok-step.step (field_entry c.in_ok-field.field) c.in_ok-step.ensures.found c.in_ok-field.ensures.found
