use Rattle.std.proofs.Common.{ap, sym, ◌∙◌, ◌++◌}
use Rattle.std.proofs.lemmas.Fmt.{decimal_digit}
use Rattle.listing_slots.proofs.DecimalLaws.{two_digits}
use Rattle.listing_slots.proofs.put.put_decimal.Goals as goal

pub returns-then-n-lt10 : goal.returns-then-n-lt10
returns-then-n-lt10 c = record {
  ok = c.in_ok-push.ensures.items ∙ ap (λ l. c.args.out.now.items ++ l) (sym (decimal_digit c.args.n c.if-n-lt10.true));
}

pub returns-then-n-lt100 : goal.returns-then-n-lt100
returns-then-n-lt100 c = record {
  ok = c.in_ok-extend_from_slice.ensures.items ∙ ap (λ l. c.args.out.now.items ++ l) (sym (two_digits c.args.n c.if-n-lt10.false c.if-n-lt100.true));
}
