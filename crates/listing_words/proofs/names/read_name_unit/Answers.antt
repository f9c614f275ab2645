use Rattle.dex_base.proofs.OptionLaws.{IfNone-always}
use Rattle.listing_words.proofs.NameLaws.{name_unit_none}
use Rattle.listing_words.proofs.names.read_name_unit.Goals as goal

pub returns-in_err-unit-clause-none : goal.returns-in_err-unit-clause-none
returns-in_err-unit-clause-none c = IfNone-always c.from_residual.result (name_unit_none c.args.text.now c.in_err-unit.ensures.none)
