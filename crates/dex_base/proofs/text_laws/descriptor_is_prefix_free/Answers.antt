use Rattle.dex_base.proofs.NameUnits.{descriptor_prefix_free}
use Rattle.dex_base.proofs.text_laws.descriptor_is_prefix_free.Goals as goal

pub returns : goal.returns
returns c = descriptor_prefix_free
