use Rattle.dex_base.proofs.OptionLaws.{IfNone-always}
use Rattle.dex_base.specs.Leb128.{Spells}
use Rattle.dex_base.proofs.Numbers.{spells_unique}
use Rattle.program_types.specs.Content.{OfDesc}
use Rattle.tables_rows.specs.Names.{NameIsAt}
use Rattle.dex_base.proofs.ViaLaws.{via-nothing}
use Rattle.code_read.proofs.handlers.read_type.Goals as goal

pub returns-in_err-ty-clause-none : goal.returns-in_err-ty-clause-none
returns-in_err-ty-clause-none c =
    IfNone-always _ (via-nothing Spells (λ i ty. NameIsAt c.args.tables.now i (OfDesc ty)) c.args.bytes.now _ c.in_ok-index.index spells_unique c.in_ok-index.ensures.some
    (λ n p. let e = c.in_err-ty.ensures in cc))
