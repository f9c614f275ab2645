use Rattle.std.proofs.Common.{◌<◌}
use Rattle.dex_base.proofs.ShortestLaws.{all_recursion, shortest_one, shortest_signed_one}
use Rattle.dex_base.proofs.spelling_laws.shortest_spelling_is_one.Goals as goal

pub returns-clause-unsigned : goal.returns-clause-unsigned
returns-clause-unsigned c = λ a b n p q s t. shortest_one a b n (all_recursion (λ x. x < 256) a p) (all_recursion (λ x. x < 256) b q) s t

pub returns-clause-signed : goal.returns-clause-signed
returns-clause-signed c = λ a b z p q s t. shortest_signed_one a b z (all_recursion (λ x. x < 256) a p) (all_recursion (λ x. x < 256) b q) s t
