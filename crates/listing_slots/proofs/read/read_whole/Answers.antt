use Rattle.dex_base.proofs.OptionLaws.{IfNone-always}
use Rattle.listing_slots.proofs.read.read_whole.Goals as goal

pub returns-in_err-read_signed-in-Nibble-clause-none : goal.returns-in_err-read_signed-in-Nibble-clause-none
returns-in_err-read_signed-in-Nibble-clause-none c = rw c.in-Nibble.is (IfNone-always c.from_residual.result (λ d s. c.in_err-read_signed-in-Nibble.ensures.none s.0 s.1))

pub returns-in_err-read_signed-in-Tiny-clause-none : goal.returns-in_err-read_signed-in-Tiny-clause-none
returns-in_err-read_signed-in-Tiny-clause-none c = rw c.in-Tiny.is (IfNone-always c.from_residual-in_err-read_signed-in-Tiny.result (λ d s. c.in_err-read_signed-in-Tiny.ensures.none s.0 s.1))

pub returns-in_err-read_signed-in-Short-clause-none : goal.returns-in_err-read_signed-in-Short-clause-none
returns-in_err-read_signed-in-Short-clause-none c = rw c.in-Short.is (IfNone-always c.from_residual-in_err-read_signed-in-Short.result (λ d s. c.in_err-read_signed-in-Short.ensures.none s.0 s.1))

pub returns-in_err-read_signed-in-Int-clause-none : goal.returns-in_err-read_signed-in-Int-clause-none
returns-in_err-read_signed-in-Int-clause-none c = rw c.in-Int.is (IfNone-always c.from_residual-in_err-read_signed-in-Int.result (λ d s. c.in_err-read_signed-in-Int.ensures.none s.0 s.1))

pub returns-in_err-read_signed-in-Long-clause-none : goal.returns-in_err-read_signed-in-Long-clause-none
returns-in_err-read_signed-in-Long-clause-none c = rw c.in-Long.is (IfNone-always c.from_residual-in_err-read_signed-in-Long.result (λ d s. c.in_err-read_signed-in-Long.ensures.none s.0 s.1))
