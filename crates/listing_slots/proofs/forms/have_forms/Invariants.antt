use Rattle.std.proofs.Common.{◌≡◌, drop, map}
use Rattle.listing_words.specs.inner.View.{word}
use Rattle.listing_slots.specs.Slots.{have_forms}
use Rattle.listing_slots.proofs.forms.have_forms.Given as goal

abbrev pub invariant-loop-i : goal.invariant-loop-i
invariant-loop-i l = have_forms l.slots (map word l.words) ≡ have_forms (drop l.i l.slots) (map word (drop l.i l.words))
