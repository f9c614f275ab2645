use Rattle.std.proofs.Common.{◌*◌}
use Rattle.listing_words.specs.inner.Plain.{IsFront}
use Rattle.listing_words.proofs.plain.put_eights.Given as goal

abbrev pub invariant-loop-i : goal.invariant-loop-i
invariant-loop-i l = IsFront l.least l.units l.fn.out.items l.out.items (8 * l.i)
