use Rattle.std.proofs.Common.{refl}
use Rattle.listing_slots.specs.Data.{byte_of, half_of, name_of}
use Rattle.listing_lines.specs.Lines.{insn_of}
use Rattle.listing_parse.proofs.ShortLaws.{byte_read, half_read, three_read}
use Rattle.listing_parse.proofs.short.of_range_name.Goals as goal

pub returns-clause-word_values : goal.returns-clause-word_values
unfolding insn_of byte_of half_of name_of
returns-clause-word_values c = λ es. three_read es refl (half_read es c.in-Some.ensures) (byte_read es c.in-Some-take_count.ensures) ((rw c.in-Some-2.is at c.in_ok-name.ensures.word_values) es) (λ ws. refl) refl
