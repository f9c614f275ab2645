use Rattle.listing_print.proofs.InsnLaws.{insn_has_shape, insn_has_bare_shape, number_printed, insn_reads}
use Rattle.listing_print.proofs.laws.printed_instructions_are_read_again.Goals as goal

pub returns : goal.returns
returns c = record { shape = insn_has_shape; bare = insn_has_bare_shape; number = number_printed; value = insn_reads }
