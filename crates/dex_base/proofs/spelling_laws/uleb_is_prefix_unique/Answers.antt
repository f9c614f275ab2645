use Rattle.dex_base.proofs.Numbers.{spells_unique}
use Rattle.dex_base.proofs.spelling_laws.uleb_is_prefix_unique.Goals as goal

pub returns : goal.returns
returns c = spells_unique
