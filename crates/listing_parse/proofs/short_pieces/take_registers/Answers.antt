use Rattle.std.proofs.Common.{◌∷◌, [], refl, arith}
use Rattle.listing_parse.proofs.ShortLaws.{byte_read}
use Rattle.listing_parse.proofs.short_pieces.take_registers.Goals as goal

pub returns-in_default-take4 : goal.returns-in_default-take4
returns-in_default-take4 c = record {
  given = c.in-Some.a ∷ [];
  count = refl;
  most = omega arith;
  padded = refl;
  each = λ es. (c.in-Some.after.now, byte_read es c.in-Some.ensures, refl);
}

pub returns-in_default-take4-2 : goal.returns-in_default-take4-2
returns-in_default-take4-2 c = record {
  given = c.in-Some.a ∷ c.in-Some-take4.b ∷ [];
  count = refl;
  most = omega arith;
  padded = refl;
  each = λ es. (c.in-Some.after.now, byte_read es c.in-Some.ensures, (c.in-Some-take4.after_b.now, byte_read es c.in-Some-take4.ensures, refl));
}

pub returns-in_default-take4-3 : goal.returns-in_default-take4-3
returns-in_default-take4-3 c = record {
  given = c.in-Some.a ∷ c.in-Some-take4.b ∷ c.in-Some-take4-2.c ∷ [];
  count = refl;
  most = omega arith;
  padded = refl;
  each = λ es. (c.in-Some.after.now, byte_read es c.in-Some.ensures, (c.in-Some-take4.after_b.now, byte_read es c.in-Some-take4.ensures, (c.in-Some-take4-2.after_c.now, byte_read es c.in-Some-take4-2.ensures, refl)));
}

pub returns-in_default-take4-4 : goal.returns-in_default-take4-4
returns-in_default-take4-4 c = record {
  given = c.in-Some.a ∷ c.in-Some-take4.b ∷ c.in-Some-take4-2.c ∷ c.in-Some-take4-3.d ∷ [];
  count = refl;
  most = omega arith;
  padded = refl;
  each = λ es. (c.in-Some.after.now, byte_read es c.in-Some.ensures, (c.in-Some-take4.after_b.now, byte_read es c.in-Some-take4.ensures, (c.in-Some-take4-2.after_c.now, byte_read es c.in-Some-take4-2.ensures, (c.in-Some-take4-3.after_d.now, byte_read es c.in-Some-take4-3.ensures, refl))));
}

pub returns : goal.returns
returns c = record {
  given = c.in-Some.a ∷ c.in-Some-take4.b ∷ c.in-Some-take4-2.c ∷ c.in-Some-take4-3.d ∷ c.in-Some-take4-4.e ∷ [];
  count = refl;
  most = omega arith;
  padded = refl;
  each = λ es. (c.in-Some.after.now, byte_read es c.in-Some.ensures, (c.in-Some-take4.after_b.now, byte_read es c.in-Some-take4.ensures, (c.in-Some-take4-2.after_c.now, byte_read es c.in-Some-take4-2.ensures, (c.in-Some-take4-3.after_d.now, byte_read es c.in-Some-take4-3.ensures, (c.in-Some-take4-4.after_e.now, byte_read es c.in-Some-take4-4.ensures, refl)))));
}
