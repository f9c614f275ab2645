use Rattle.std.proofs.Common.{refl, rules}
use Rattle.listing_slots.specs.Data.{byte_of, half_of}
use Rattle.listing_lines.specs.Lines.{insn_of}
use Rattle.listing_parse.proofs.ShortLaws.{byte_read, half_read, one_read, two_read, three_read, none_read}
use Rattle.listing_parse.proofs.short.of_registers.Goals as goal

pub returns-in_ok-a-in-F11x-clause-word_values : goal.returns-in_ok-a-in-F11x-clause-word_values
unfolding insn_of byte_of
returns-in_ok-a-in-F11x-clause-word_values c = λ es. one_read es c.in-F11x.is (byte_read es c.in_ok-a-in-F11x.ensures) (λ ws. refl) refl

pub returns-in_ok-b-in-F12x-clause-word_values : goal.returns-in_ok-b-in-F12x-clause-word_values
unfolding insn_of byte_of
returns-in_ok-b-in-F12x-clause-word_values c = λ es. two_read es c.in-F12x.is (byte_read es c.in_ok-a-in-F12x.ensures) (byte_read es c.in_ok-b-in-F12x.ensures) (λ ws. refl) refl

pub returns-in_ok-b-in-F22x-clause-word_values : goal.returns-in_ok-b-in-F22x-clause-word_values
unfolding insn_of byte_of half_of
returns-in_ok-b-in-F22x-clause-word_values c = λ es. two_read es c.in-F22x.is (byte_read es c.in_ok-a-in-F22x.ensures) (half_read es c.in_ok-b-in-F22x.ensures) (λ ws. refl) refl

pub returns-in_ok-c-in-F23x-clause-word_values : goal.returns-in_ok-c-in-F23x-clause-word_values
unfolding insn_of byte_of
returns-in_ok-c-in-F23x-clause-word_values c = λ es. three_read es c.in-F23x.is (byte_read es c.in_ok-a-in-F23x.ensures) (byte_read es c.in_ok-b-in-F23x.ensures) (byte_read es c.in_ok-c-in-F23x.ensures) (λ ws. refl) refl

pub returns-in_ok-b-in-F32x-clause-word_values : goal.returns-in_ok-b-in-F32x-clause-word_values
unfolding insn_of half_of
returns-in_ok-b-in-F32x-clause-word_values c = λ es. two_read es c.in-F32x.is (half_read es c.in_ok-a-in-F32x.ensures) (half_read es c.in_ok-b-in-F32x.ensures) (λ ws. refl) refl

pub returns-in-F10x-clause-word_values : goal.returns-in-F10x-clause-word_values
returns-in-F10x-clause-word_values c = λ es. none_read es c.args.rest.now c.in-F10x.is (search rules)
