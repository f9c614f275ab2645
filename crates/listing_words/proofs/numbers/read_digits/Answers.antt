use Rattle.std.proofs.Common.{arith, sym}
use Rattle.listing_words.proofs.NumberLaws.{step_value, no_digit, too_large, all_digits}
use Rattle.listing_words.proofs.numbers.read_digits.Goals as goal
use Rattle.std.proofs.lemmas.Int.Digits.{digits_more}

pub returns-then-next-radix : goal.returns-then-next-radix
returns-then-next-radix c = λ h. no_digit c.args.radix c.args.digits.now c.loop-c.c-index c.loop-c-test.true (omega (arith, c.digit-next.ensures.value)) h.0.1

pub returns-then-sum-most : goal.returns-then-sum-most
returns-then-sum-most c = λ h. too_large c.args.radix c.args.digits.now c.loop-c.c-index c.loop-c.value c.args.most c.requires c.loop-c-test.true c.loop-c.invariant.value (rw (sym c.digit-next.ensures.value) (omega arith)) h.1

pub loop-c-preserved : goal.loop-c-preserved
loop-c-preserved c = record {
  value = rw c.digit-next.ensures.value (step_value c.args.radix c.args.digits.now c.loop-c.c-index c.loop-c.value c.loop-c-test.true c.loop-c.invariant.value);
  most = omega arith;
  digits = digits_more c.args.radix c.args.digits.now c.loop-c.c-index c.loop-c-test.true c.loop-c.invariant.digits (rw (sym c.digit-next.ensures.value) (omega arith));
}

pub returns : goal.returns
returns c = all_digits c.args.radix c.args.digits.now c.loop-c.c-index c.loop-c.value c.args.most (omega arith) (omega arith) c.loop-c.invariant.digits c.loop-c.invariant.value c.loop-c.invariant.most
