use Rattle.dex_base.proofs.TextLaws.{text_unique}
use Rattle.dex_base.proofs.text_laws.text_is_prefix_unique.Goals as goal

pub returns : goal.returns
returns c = text_unique
