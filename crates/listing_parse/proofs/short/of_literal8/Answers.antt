use Rattle.std.proofs.Common.{FitsSigned, w8, w16, w32, w64, refl}
use Rattle.std.proofs.lemmas.Int.{to_z-of_z}
use Rattle.listing_slots.specs.Data.{byte_of, int_of, long_of, short_of, tiny_of}
use Rattle.listing_lines.specs.Lines.{insn_of}
use Rattle.listing_parse.proofs.ShortLaws.{byte_read, int_read, long_read, short_read, tiny_read, two_read, three_read, fits_16, fits_32, fits_64, fits_8}
use Rattle.listing_parse.proofs.short.of_literal8.Goals as goal

pub returns-in_ok-b-in-F21s-clause-word_values : goal.returns-in_ok-b-in-F21s-clause-word_values
unfolding insn_of byte_of short_of
returns-in_ok-b-in-F21s-clause-word_values c =
    let last = c.in_ok-b-in-F21s in
    let f : FitsSigned w16 last.b = fits_16 last.b last.ensures.number.small in
    λ es. simp to_z-of_z (two_read es c.in-F21s.is (byte_read es c.in_ok-a.ensures) (short_read es last.ensures) (λ ws. refl) refl)

pub returns-in_ok-b-in-F21h-clause-word_values : goal.returns-in_ok-b-in-F21h-clause-word_values
unfolding insn_of byte_of short_of
returns-in_ok-b-in-F21h-clause-word_values c =
    let last = c.in_ok-b-in-F21h in
    let f : FitsSigned w16 last.b = fits_16 last.b last.ensures.number.small in
    λ es. simp to_z-of_z (two_read es c.in-F21h.is (byte_read es c.in_ok-a.ensures) (short_read es last.ensures) (λ ws. refl) refl)

pub returns-in_ok-b-in-F31i-clause-word_values : goal.returns-in_ok-b-in-F31i-clause-word_values
unfolding insn_of byte_of int_of
returns-in_ok-b-in-F31i-clause-word_values c =
    let last = c.in_ok-b-in-F31i in
    let f : FitsSigned w32 last.b = fits_32 last.b last.ensures.number.small in
    λ es. simp to_z-of_z (two_read es c.in-F31i.is (byte_read es c.in_ok-a.ensures) (int_read es last.ensures) (λ ws. refl) refl)

pub returns-in_ok-b-in-F51l-clause-word_values : goal.returns-in_ok-b-in-F51l-clause-word_values
unfolding insn_of byte_of long_of
returns-in_ok-b-in-F51l-clause-word_values c =
    let last = c.in_ok-b-in-F51l in
    let f : FitsSigned w64 last.b = fits_64 last.b last.ensures.number.small in
    λ es. simp to_z-of_z (two_read es c.in-F51l.is (byte_read es c.in_ok-a.ensures) (long_read es last.ensures) (λ ws. refl) refl)

pub returns-in_ok-c-in-F22b-clause-word_values : goal.returns-in_ok-c-in-F22b-clause-word_values
unfolding insn_of byte_of tiny_of
returns-in_ok-c-in-F22b-clause-word_values c =
    let last = c.in_ok-c-in-F22b in
    let f : FitsSigned w8 last.c = fits_8 last.c last.ensures.number.small in
    λ es. simp to_z-of_z (three_read es c.in-F22b.is (byte_read es c.in_ok-a.ensures) (byte_read es c.in_ok-b-in-F22b.ensures) (tiny_read es last.ensures) (λ ws. refl) refl)
