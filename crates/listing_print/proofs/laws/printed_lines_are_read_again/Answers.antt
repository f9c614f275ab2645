use Rattle.listing_print.proofs.RowLaws.{keyed_has_shape, keyed_reads_line}
use Rattle.listing_print.proofs.laws.printed_lines_are_read_again.Goals as goal

pub returns : goal.returns
returns c = record { shape = keyed_has_shape; value = keyed_reads_line }
