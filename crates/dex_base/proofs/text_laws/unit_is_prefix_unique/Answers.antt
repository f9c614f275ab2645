use Rattle.dex_base.proofs.UnitLaws.{unit_unique}
use Rattle.dex_base.proofs.text_laws.unit_is_prefix_unique.Goals as goal

pub returns : goal.returns
returns c = unit_unique
