use Rattle.code_align.proofs.PadLaws.{aligned-one}
use Rattle.code_align.proofs.laws.aligned_is_one.Goals as goal

pub returns : goal.returns
returns c = λ a b d p q. aligned-one a b d p q
