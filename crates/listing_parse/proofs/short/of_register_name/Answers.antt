use Rattle.std.proofs.Common.{refl}
use Rattle.listing_slots.specs.Data.{byte_of, name_of}
use Rattle.listing_lines.specs.Lines.{insn_of}
use Rattle.listing_parse.proofs.ShortLaws.{byte_read, two_read}
use Rattle.listing_parse.proofs.short.of_register_name.Goals as goal

pub returns-in-F21c-clause-word_values : goal.returns-in-F21c-clause-word_values
unfolding insn_of byte_of name_of
returns-in-F21c-clause-word_values c = λ es. two_read es c.in-F21c.is (byte_read es c.in-Some.ensures) ((rw c.in-Some-2.is at c.in_ok-name.ensures.word_values) es) (λ ws. refl) refl

pub returns-in-F31c-clause-word_values : goal.returns-in-F31c-clause-word_values
unfolding insn_of byte_of name_of
returns-in-F31c-clause-word_values c = λ es. two_read es c.in-F31c.is (byte_read es c.in-Some.ensures) ((rw c.in-Some-2.is at c.in_ok-name.ensures.word_values) es) (λ ws. refl) refl
