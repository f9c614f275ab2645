use Rattle.listing_words.specs.inner.Plain.{IsFront}
use Rattle.listing_words.proofs.plain.put_ones.Given as goal

abbrev pub invariant-loop-i : goal.invariant-loop-i
invariant-loop-i l = IsFront l.least l.units l.fn.out.items l.out.items l.i
