use Rattle.dex_base.specs.Leb128.{Spells}
use Rattle.dex_base.proofs.Numbers.{spells_unique}
use Rattle.dex_base.proofs.TakesLaws.{Takes-from_begins, Takes-none, Takes-unique}
use Rattle.dex_base.proofs.spelling_laws.number_at_the_front_is_one.Goals as goal

pub returns-clause-takes : goal.returns-clause-takes
returns-clause-takes c = Takes-from_begins Spells

pub returns-clause-one : goal.returns-clause-one
returns-clause-one c = λ bytes r s m n p q. Takes-unique Spells bytes m n r s spells_unique p q

pub returns-clause-none : goal.returns-clause-none
returns-clause-none c = λ bytes rest n none t. Takes-none Spells bytes n rest none t
