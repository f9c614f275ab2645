use Rattle.dex_base.proofs.Signed.{signed_unique}
use Rattle.dex_base.proofs.spelling_laws.sleb_is_prefix_unique.Goals as goal

pub returns : goal.returns
returns c = signed_unique
