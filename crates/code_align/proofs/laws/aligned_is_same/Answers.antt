use Rattle.code_align.proofs.SameLaws.{aligned-same}
use Rattle.code_align.proofs.laws.aligned_is_same.Goals as goal

pub returns : goal.returns
returns c = λ a b e p. aligned-same a b e p
