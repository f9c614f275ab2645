use Rattle.listing_slots.proofs.ShownLaws.{shown_reads, shown_form, shown_written}
use Rattle.listing_slots.proofs.word_laws.printed_words_are_read_again.Goals as goal

pub returns : goal.returns
returns c = record { word_values = shown_reads; form = shown_form; written = shown_written }
