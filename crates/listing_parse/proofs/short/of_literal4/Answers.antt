use Rattle.std.proofs.Common.{FitsSigned, w8, w16, refl}
use Rattle.std.proofs.lemmas.Int.{to_z-of_z}
use Rattle.listing_slots.specs.Data.{byte_of, short_of, tiny_of}
use Rattle.listing_lines.specs.Lines.{insn_of}
use Rattle.listing_parse.proofs.ShortLaws.{byte_read, nibble_read, short_read, two_read, three_read, fits_16, nibble_fits}
use Rattle.listing_parse.proofs.short.of_literal4.Goals as goal

pub returns-in_ok-b-in-F11n-clause-word_values : goal.returns-in_ok-b-in-F11n-clause-word_values
unfolding insn_of byte_of tiny_of
returns-in_ok-b-in-F11n-clause-word_values c =
    let last = c.in_ok-b-in-F11n in
    let f : FitsSigned w8 last.b = nibble_fits last.b last.ensures.number.small in
    λ es. simp to_z-of_z (two_read es c.in-F11n.is (byte_read es c.in_ok-a.ensures) (nibble_read es last.ensures) (λ ws. refl) refl)

pub returns-in_ok-c-in-F22s-clause-word_values : goal.returns-in_ok-c-in-F22s-clause-word_values
unfolding insn_of byte_of short_of
returns-in_ok-c-in-F22s-clause-word_values c =
    let last = c.in_ok-c-in-F22s in
    let f : FitsSigned w16 last.c = fits_16 last.c last.ensures.number.small in
    λ es. simp to_z-of_z (three_read es c.in-F22s.is (byte_read es c.in_ok-a.ensures) (byte_read es c.in_ok-b-in-F22s.ensures) (short_read es last.ensures) (λ ws. refl) refl)
