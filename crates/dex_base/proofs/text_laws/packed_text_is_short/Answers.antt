use Rattle.dex_base.proofs.TextLaws.{packed_length, mutf8_length-most, mutf8_length-least}
use Rattle.dex_base.proofs.text_laws.packed_text_is_short.Goals as goal

pub returns-clause-bytes : goal.returns-clause-bytes
returns-clause-bytes c = packed_length

pub returns-clause-units : goal.returns-clause-units
returns-clause-units c = mutf8_length-most

pub returns-clause-least : goal.returns-clause-least
returns-clause-least c = mutf8_length-least
