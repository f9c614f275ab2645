use Rattle.program_types.specs.inner.KeyLaws.{key_cmp-total, key_cmp-same}
use Rattle.program_types.proofs.compare.key_laws.Goals as goal

pub returns-clause-total : goal.returns-clause-total
returns-clause-total c = key_cmp-total

pub returns-clause-no_ties : goal.returns-clause-no_ties
returns-clause-no_ties c = key_cmp-same
