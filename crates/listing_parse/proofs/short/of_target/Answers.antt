use Rattle.std.proofs.Common.{refl}
use Rattle.listing_slots.specs.Data.{byte_of, word_of}
use Rattle.listing_lines.specs.Lines.{insn_of}
use Rattle.listing_parse.proofs.ShortLaws.{byte_read, one_read, two_read, three_read}
use Rattle.listing_parse.proofs.short.of_target.Goals as goal

pub returns-in_ok-to-in-F10t-clause-word_values : goal.returns-in_ok-to-in-F10t-clause-word_values
unfolding insn_of word_of
returns-in_ok-to-in-F10t-clause-word_values c = let es = c.args.listing.now.labels in one_read es c.in-F10t.is c.in_ok-to-in-F10t.ensures (λ ws. refl) refl

pub returns-in_ok-to-in-F20t-clause-word_values : goal.returns-in_ok-to-in-F20t-clause-word_values
unfolding insn_of word_of
returns-in_ok-to-in-F20t-clause-word_values c = let es = c.args.listing.now.labels in one_read es c.in-F20t.is c.in_ok-to-in-F20t.ensures (λ ws. refl) refl

pub returns-in_ok-to-in-F30t-clause-word_values : goal.returns-in_ok-to-in-F30t-clause-word_values
unfolding insn_of word_of
returns-in_ok-to-in-F30t-clause-word_values c = let es = c.args.listing.now.labels in one_read es c.in-F30t.is c.in_ok-to-in-F30t.ensures (λ ws. refl) refl

pub returns-in_ok-to-in-F21t-clause-word_values : goal.returns-in_ok-to-in-F21t-clause-word_values
unfolding insn_of byte_of word_of
returns-in_ok-to-in-F21t-clause-word_values c = let es = c.args.listing.now.labels in two_read es c.in-F21t.is (byte_read es c.in_ok-a-in-F21t.ensures) c.in_ok-to-in-F21t.ensures (λ ws. refl) refl

pub returns-in_ok-to-in-F31t-clause-word_values : goal.returns-in_ok-to-in-F31t-clause-word_values
unfolding insn_of byte_of word_of
returns-in_ok-to-in-F31t-clause-word_values c = let es = c.args.listing.now.labels in two_read es c.in-F31t.is (byte_read es c.in_ok-a-in-F31t.ensures) c.in_ok-to-in-F31t.ensures (λ ws. refl) refl

pub returns-in_ok-to-in-F22t-clause-word_values : goal.returns-in_ok-to-in-F22t-clause-word_values
unfolding insn_of byte_of word_of
returns-in_ok-to-in-F22t-clause-word_values c = let es = c.args.listing.now.labels in three_read es c.in-F22t.is (byte_read es c.in_ok-a-in-F22t.ensures) (byte_read es c.in_ok-b-in-F22t.ensures) c.in_ok-to-in-F22t.ensures (λ ws. refl) refl
