use Rattle.std.proofs.Common.{◌<◌}
use Rattle.dex_base.proofs.ShortestLaws.{all_recursion}
use Rattle.dex_base.proofs.TextLaws.{packed_is_text, packed_one}
use Rattle.dex_base.proofs.text_laws.packed_text_is_one_text.Goals as goal

pub returns-clause-text : goal.returns-clause-text
returns-clause-text c = packed_is_text

pub returns-clause-one : goal.returns-clause-one
returns-clause-one c = λ a b units p q s t. packed_one a b units (all_recursion (λ x. x < 256) a p) (all_recursion (λ x. x < 256) b q) s t
