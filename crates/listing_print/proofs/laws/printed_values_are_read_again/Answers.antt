use Rattle.listing_print.proofs.PrintedLaws.{value_whole}
use Rattle.listing_print.proofs.MadeLaws.{value_made}
use Rattle.listing_print.proofs.laws.printed_values_are_read_again.Goals as goal

pub returns : goal.returns
returns c = record { slots = value_whole; value = value_made }
