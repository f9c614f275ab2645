use Rattle.file_strip.proofs.RowsFrom.{holds_at_least}
use Rattle.file_strip.proofs.least_laws.needed_names_have_rows.Goals as goal

pub returns : goal.returns
returns c = holds_at_least
