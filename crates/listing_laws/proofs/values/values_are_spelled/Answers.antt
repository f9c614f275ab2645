use Rattle.listing_laws.proofs.GivenLines.{spelled_line_is_read, line_is_spelled}
use Rattle.listing_laws.proofs.ReadValues.{read_is_spelled}
use Rattle.listing_laws.proofs.SpelledValues.{spelled_is_read}
use Rattle.listing_laws.proofs.values.values_are_spelled.Goals as goal

pub returns : goal.returns
returns c = record {
  value = λ ws v. (spelled_is_read ws v, read_is_spelled ws v);
  line = λ form ls ws m v. (spelled_line_is_read form ls ws m v, line_is_spelled form ls ws m v);
}
