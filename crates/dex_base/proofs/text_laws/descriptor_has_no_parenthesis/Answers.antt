use Rattle.dex_base.proofs.NameUnits.{IsPlain, all_index, descriptor_units_plain, descriptor_not_close}
use Rattle.dex_base.proofs.text_laws.descriptor_has_no_parenthesis.Goals as goal

pub returns-clause-units : goal.returns-clause-units
returns-clause-units c = λ units d. all_index IsPlain units (descriptor_units_plain units d)

pub returns-clause-first : goal.returns-clause-first
returns-clause-first c = descriptor_not_close
