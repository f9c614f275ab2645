use Rattle.std.proofs.Common.{refl}
use Rattle.dex_base.specs.Leb128.{Spells}
use Rattle.dex_base.proofs.Numbers.{spells_unique}
use Rattle.dex_base.proofs.PlacedLaws.{Placed-from_each, Placed-unique}
use Rattle.dex_base.proofs.spelling_laws.places_of_numbers_are_decided.Goals as goal

pub returns-clause-some : goal.returns-clause-some
returns-clause-some c = Placed-from_each Spells

pub returns-clause-one : goal.returns-clause-one
returns-clause-one c = λ place bytes a b n p q. (Placed-unique Spells spells_unique place a b bytes bytes bytes bytes n p q refl).1
