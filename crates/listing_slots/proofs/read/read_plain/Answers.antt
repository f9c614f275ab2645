use Rattle.std.proofs.Common.{arith}
use Rattle.dex_base.proofs.OptionLaws.{IfNone-always}
use Rattle.listing_slots.proofs.NumberReadLaws.{bits_fit}
use Rattle.listing_slots.proofs.read.read_plain.Goals as goal

pub overflow_cast-result-in-Float : goal.overflow_cast-result-in-Float
overflow_cast-result-in-Float c = let b = bits_fit 8 c.args.text.now c.in_ok-read_bits-in-Float.field-0 c.in_ok-read_bits-in-Float.ensures.found in omega arith

pub returns-in_err-read_number-in-Byte-clause-none : goal.returns-in_err-read_number-in-Byte-clause-none
returns-in_err-read_number-in-Byte-clause-none c = rw c.in-Byte.is (IfNone-always c.from_residual.result (λ d s. c.in_err-read_number-in-Byte.ensures.none s.0 s.1))

pub returns-in_err-read_number-in-Half-clause-none : goal.returns-in_err-read_number-in-Half-clause-none
returns-in_err-read_number-in-Half-clause-none c = rw c.in-Half.is (IfNone-always c.from_residual-in_err-read_number-in-Half.result (λ d s. c.in_err-read_number-in-Half.ensures.none s.0 s.1))

pub returns-in_err-read_number-in-Word-clause-none : goal.returns-in_err-read_number-in-Word-clause-none
returns-in_err-read_number-in-Word-clause-none c = rw c.in-Word.is (IfNone-always c.from_residual-in_err-read_number-in-Word.result (λ d s. c.in_err-read_number-in-Word.ensures.none s.0 s.1))

pub returns-in_err-read_number-in-Flags-clause-none : goal.returns-in_err-read_number-in-Flags-clause-none
returns-in_err-read_number-in-Flags-clause-none c = rw c.in-Flags.is (IfNone-always c.from_residual-in_err-read_number-in-Flags.result (λ d s. c.in_err-read_number-in-Flags.ensures.none s.0 s.1))
