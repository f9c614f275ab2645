use Rattle.code_align.proofs.OneAligned.{too_long_unformed}
use Rattle.code_align.proofs.program_laws.what_is_too_long_is_not_formed.Goals as goal

pub returns : goal.returns
returns c = too_long_unformed
